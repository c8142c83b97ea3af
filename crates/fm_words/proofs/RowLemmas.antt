-- What is found in the rows of parts.
use Rattle.std.proofs.Common.{◌≡◌, ◌||◌, ℕ, Bool, true, false, cond, List, [], ◌∷◌, map, Option, Some, None, option_map, refl, sym, ap, subst, codes, if◌then◌else◌}
use Rattle.std.specs.List.{All, find}
use Rattle.std.specs.Str.{IsUtf8, bytes_eq}
use Rattle.std.proofs.lemmas.Slice.Eq.{bytes_eq-Decides}
use Rattle.clap.specs.Walk.{Row, Text, first_of}
use Rattle.fm_words.specs.Rules.{Choice, Part, Takes, Word, file, files_in, flag, has_flag_named, is_dashed, is_table, nothing, number, parts_after, reading, stray, text_for, unvalued, valued, whole}
use Rattle.fm_words.specs.Settings.{has_flag}
use Rattle.fm_words.proofs.UseLemmas.{IsKnown, choice_with, flag_row, text_row}
use Rattle.fm_words.proofs.WalkParts.{other_way, rows_for}
use Rattle.fm_words.proofs.WalkRules.{parts_await, parts_whole}
use Rattle.fm_words.proofs.WalkViews.{Place, View, dashes, first, first_of_all, flag_alone, flag_valued, number_alone, number_valued, past, plain, rest_of_all, second, unknown, view}

-- the row of a name
abbrev pub row_at : Text → List Row → Option Row
row_at name rows = find (λ r. bytes_eq r.id name) rows

-- ---- parts have the kinds of their options

-- each flag is a flag of the table, and each option with a text one with a number
abbrev pub OfKinds : List Choice → List Part → Type 0
OfKinds table [] = Unit {0}
OfKinds table (flag name ∷ parts) = IsKnown table name nothing × OfKinds table parts
OfKinds table (valued name text ∷ parts) = ((low : ℕ) × (high : ℕ) × IsKnown table name (number low high)) × OfKinds table parts
OfKinds table (part ∷ parts) = OfKinds table parts

module _ (table : List Choice) where
  files_of_kinds : (words : List Word) → OfKinds table (map (λ w. file w) words)
  files_of_kinds [] = tt
  files_of_kinds (word ∷ words) = files_of_kinds words

  abbrev Kinds : List Word → Type 0
  Kinds words = OfKinds table (parts_after table None words) × ((name : Word) (low high : ℕ) → IsKnown table name (number low high)
      → OfKinds table (parts_after table (Some name) words))

  whole_kinds : (word : Word) (words : List Word) (part : Part) → bytes_eq word (codes "--") ≡ false → reading table word ≡ whole part
      → OfKinds table (part ∷ parts_after table None words)
      → OfKinds table (parts_after table None (word ∷ words))
  whole_kinds word words part other is kinds = subst (λ (parts : List Part). OfKinds table parts)
      (sym (parts_whole table word words part other is)) kinds

  view_kinds : (word : Word) (words : List Word) → View table word → Kinds words → OfKinds table (parts_after table None (word ∷ words))
  unfolding parts_after
  view_kinds word words (dashes is) rest = subst (λ (w : Word). OfKinds table (parts_after table None (w ∷ words))) (sym is)
      (files_of_kinds words)
  view_kinds word words (plain looks not_dashed reads) rest = whole_kinds word words (file word) looks.dashes reads rest.0
  view_kinds word words (flag_alone name known o dash reads) rest = whole_kinds word words (flag name) o.dashes reads (known, rest.0)
  view_kinds word words (flag_valued name value o dash reads) rest = whole_kinds word words (stray word) o.dashes reads rest.0
  view_kinds word words (number_alone name low high known o dash reads) rest =
      subst (λ (parts : List Part). OfKinds table parts) (sym (parts_await table word words name o.dashes reads))
      (rest.1 name low high known)
  view_kinds word words (number_valued name value low high known o dash reads) rest = whole_kinds word words
      (valued name value) o.dashes reads ((low, high, known), rest.0)
  view_kinds word words (unknown other fault dash reads) rest = whole_kinds word words (stray word) other reads rest.0

  value_kinds : (b : Bool) (word name : Word) (parts : List Part) → OfKinds table parts → (low high : ℕ)
      → IsKnown table name (number low high) → OfKinds table ((if b then unvalued name else valued name word) ∷ parts)
  value_kinds true word name parts kinds low high known = kinds
  value_kinds false word name parts kinds low high known = ((low, high, known), kinds)

  each_kind : (words : List Word) → is_table table ≡ true → All IsUtf8 words → Kinds words
  unfolding parts_after
  each_kind [] ok texts = (tt, λ name low high known. tt)
  each_kind (word ∷ words) ok texts =
      let rest = each_kind words ok (rest_of_all word words texts) in (
        view_kinds word words (view table word ok (first_of_all word words texts)) rest,
        λ name low high known. value_kinds (is_dashed word) word name _ rest.0 low high known,
      )

  -- so are the parts of words
  pub of_kinds : (words : List Word) → is_table table ≡ true → All IsUtf8 words → OfKinds table (parts_after table None words)
  of_kinds words ok texts = (each_kind words ok texts).0

  -- ---- what is found in the rows

  two_kinds : (name : Word) (one other : Takes) → IsKnown table name one → IsKnown table name other → one ≡ other
  two_kinds name one other known also = let same : choice_with name one ≡ choice_with name other = cc in ap (λ (c : Choice). c.takes) same

  -- the text of a number is found in the rows where the parts have it
  pub text_found : (name : Word) (low high : ℕ) → IsKnown table name (number low high) → (parts : List Part) (place : Place)
      → OfKinds table parts → first_of name (rows_for place parts) ≡ text_for name parts
  text_found name low high known [] place kinds = refl
  text_found name low high known (file word ∷ parts) first kinds = rw known.no_source (text_found name low high known parts second kinds)
  text_found name low high known (file word ∷ parts) second kinds = rw known.no_target (text_found name low high known parts past kinds)
  text_found name low high known (file word ∷ parts) past kinds = rw known.no_target (text_found name low high known parts past kinds)
  text_found name low high known (flag other ∷ parts) place kinds = rw (apart (bytes_eq other name) refl)
      (text_found name low high known parts place kinds.1)
    where
      apart : (b : Bool) → bytes_eq other name ≡ b → bytes_eq other name ≡ false
      apart false is = is
      apart true is =
          let same : other ≡ name = (bytes_eq-Decides other name).0 is in
          let never : nothing ≡ number low high = two_kinds name nothing (number low high)
          (subst (λ (n : Word). IsKnown table n nothing) same kinds.0) known in cc
  text_found name low high known (valued other text ∷ parts) place kinds = go (bytes_eq other name) refl
      (text_found name low high known parts place kinds.1)
    where
      go : (b : Bool) → bytes_eq other name ≡ b → first_of name (rows_for place parts) ≡ text_for name parts
          → first_of name (text_row other text ∷ rows_for place parts) ≡ cond b (Some text) (text_for name parts)
      go true is rest = rw is refl
      go false is rest = rw is rest
  text_found name low high known (unvalued other ∷ parts) place kinds = text_found name low high known parts place kinds
  text_found name low high known (stray other ∷ parts) place kinds = text_found name low high known parts place kinds

  -- and a flag where the parts have it
  pub flag_found : (name : Word) → IsKnown table name nothing → (parts : List Part) (place : Place) → OfKinds table parts
      → has_flag (first_of name (rows_for place parts)) ≡ has_flag_named name parts
  flag_found name known [] place kinds = refl
  flag_found name known (file word ∷ parts) first kinds = rw known.no_source (flag_found name known parts second kinds)
  flag_found name known (file word ∷ parts) second kinds = rw known.no_target (flag_found name known parts past kinds)
  flag_found name known (file word ∷ parts) past kinds = rw known.no_target (flag_found name known parts past kinds)
  flag_found name known (valued other text ∷ parts) place kinds = rw (apart (bytes_eq other name) refl)
      (flag_found name known parts place kinds.1)
    where
      apart : (b : Bool) → bytes_eq other name ≡ b → bytes_eq other name ≡ false
      apart false is = is
      apart true is =
          let same : other ≡ name = (bytes_eq-Decides other name).0 is in
          let never : nothing ≡ number kinds.0.0 kinds.0.1 = two_kinds name nothing (number kinds.0.0 kinds.0.1) known
          (subst (λ (n : Word). IsKnown table n (number kinds.0.0 kinds.0.1)) same kinds.0.2) in cc
  flag_found name known (flag other ∷ parts) place kinds = go (bytes_eq other name) refl (flag_found name known parts place kinds.1)
    where
      go : (b : Bool) → bytes_eq other name ≡ b → has_flag (first_of name (rows_for place parts)) ≡ has_flag_named name parts
          → has_flag (first_of name (flag_row other ∷ rows_for place parts)) ≡ (b || has_flag_named name parts)
      go true is rest = rw is refl
      go false is rest = rw is rest
  flag_found name known (unvalued other ∷ parts) place kinds = flag_found name known parts place kinds
  flag_found name known (stray other ∷ parts) place kinds = flag_found name known parts place kinds

-- ---- the rows of the two files

-- the first of some words, and the second
abbrev pub first_word : List Word → Option Word
first_word [] = None
first_word (word ∷ words) = Some word

-- the second
abbrev pub second_word : List Word → Option Word
second_word [] = None
second_word (word ∷ words) = first_word words

module _ (table : List Choice) where
  -- behind the first file the next one is the second
  pub target_found : (parts : List Part) → OfKinds table parts → row_at (codes "OUT") (rows_for second parts)
      ≡ option_map (text_row (codes "OUT")) (first_word (files_in parts))
  target_found [] kinds = refl
  target_found (file word ∷ parts) kinds = refl
  target_found (flag name ∷ parts) kinds = rw (other_way (codes "OUT") name kinds.0.no_target) (target_found parts kinds.1)
  target_found (valued name text ∷ parts) kinds = rw (other_way (codes "OUT") name kinds.0.2.no_target) (target_found parts kinds.1)
  target_found (unvalued name ∷ parts) kinds = target_found parts kinds
  target_found (stray word ∷ parts) kinds = target_found parts kinds

  -- the second file is found in the rows
  pub second_found : (parts : List Part) → OfKinds table parts → row_at (codes "OUT") (rows_for first parts)
      ≡ option_map (text_row (codes "OUT")) (second_word (files_in parts))
  second_found [] kinds = refl
  second_found (file word ∷ parts) kinds = target_found parts kinds
  second_found (flag name ∷ parts) kinds = rw (other_way (codes "OUT") name kinds.0.no_target) (second_found parts kinds.1)
  second_found (valued name text ∷ parts) kinds = rw (other_way (codes "OUT") name kinds.0.2.no_target) (second_found parts kinds.1)
  second_found (unvalued name ∷ parts) kinds = second_found parts kinds
  second_found (stray word ∷ parts) kinds = second_found parts kinds

  -- and the first
  pub source_found : (parts : List Part) → OfKinds table parts → row_at (codes "IN") (rows_for first parts)
      ≡ option_map (text_row (codes "IN")) (first_word (files_in parts))
  source_found [] kinds = refl
  source_found (file word ∷ parts) kinds = refl
  source_found (flag name ∷ parts) kinds = rw (other_way (codes "IN") name kinds.0.no_source) (source_found parts kinds.1)
  source_found (valued name text ∷ parts) kinds = rw (other_way (codes "IN") name kinds.0.2.no_source) (source_found parts kinds.1)
  source_found (unvalued name ∷ parts) kinds = source_found parts kinds
  source_found (stray word ∷ parts) kinds = source_found parts kinds
