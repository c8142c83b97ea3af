-- With the options of playing alone, words have the parts that they have with all options, where these are no others.
use Rattle.std.proofs.Common.{◌≡◌, ◌∙◌, ◌&&◌, ℕ, Bool, true, false, cond, not, List, [], ◌∷◌, map, Option, Some, None, refl, sym, ap, subst, codes, if◌then◌else◌}
use Rattle.std.specs.List.{AllByRecursion, before_first, list_all, list_any}
use Rattle.std.specs.Str.{bytes_eq}
use Rattle.std.proofs.lemmas.Slice.Eq.{bytes_eq-Decides}
use Rattle.fm_words.specs.Asked.{options}
use Rattle.fm_words.specs.Rules.{Choice, Part, Takes, Word, awaits, behind_hyphens, choice_of, file, flag, is_dashed, is_equals, is_known, nothing, number, parts_after, reading, stray, unvalued, value_in, valued, whole}
use Rattle.fm_words.proofs.UseLemmas.{choice_with}
use Rattle.fm_words.proofs.WalkRules.{parts_await, parts_whole}
use Rattle.fm_words.proofs.WalkViews.{both_parts}
use Rattle.fm_top.specs.PlayWords.{play_options}

-- ---- names

-- the flags that ask for something else, and the options with a number that do
abbrev pub other_flags : List Word
other_flags = codes "list" ∷ codes "parts" ∷ codes "record" ∷ codes "audit" ∷ []

abbrev pub other_numbers : List Word
other_numbers = codes "generate" ∷ codes "locate" ∷ codes "from" ∷ codes "to" ∷ []

abbrev pub among : Word → List Word → Bool
among name names = list_any (λ other. bytes_eq name other) names

-- a part that is none of these
abbrev pub plain : Part → Bool
plain (file word) = true
plain (flag name) = not (among name other_flags)
plain (valued name text) = not (among name other_numbers)
plain (unvalued name) = false
plain (stray word) = false

-- an option of playing stands in the whole table too
record IsShared (c : Choice) : Type 0 where
  pub found : choice_of options c.name ≡ Some c
  pub flag : among c.name other_flags ≡ false
  pub number : among c.name other_numbers ≡ false

all_shared : AllByRecursion IsShared play_options
all_shared =
    let shared : (c : Choice) → choice_of options c.name ≡ Some c → among c.name other_flags ≡ false
    → among c.name other_numbers ≡ false → IsShared c =
    λ c p q r. record { found = p; flag = q; number = r } in (
      shared _ refl refl refl,
      (
        shared _ refl refl refl,
        (
          shared _ refl refl refl,
          (
            shared _ refl refl refl,
            (shared _ refl refl refl, tt),
          ),
        ),
      ),
    )

-- an option of the whole table is one of playing, or another
data IsOne (c : Choice) : Type 0 where
  ours : choice_of play_options c.name ≡ Some c → IsOne c
  a_flag : c.takes ≡ nothing → among c.name other_flags ≡ true → IsOne c
  a_number : (low high : ℕ) → c.takes ≡ number low high → among c.name other_numbers ≡ true → IsOne c

all_ones : AllByRecursion IsOne options
all_ones = (
  ours refl,
  (
    ours refl,
    (
      ours refl,
      (
        a_number _ _ refl refl,
        (
          ours refl,
          (
            a_flag refl refl,
            (
              a_flag refl refl,
              (
                a_number _ _ refl refl,
                (
                  ours refl,
                  (
                    a_number _ _ refl refl,
                    (
                      a_number _ _ refl refl,
                      (
                        a_flag refl refl,
                        (a_flag refl refl, tt),
                      ),
                    ),
                  ),
                ),
              ),
            ),
          ),
        ),
      ),
    ),
  ),
)

-- what is found has what all of a table have, and the name that was asked for
found_has : (P : Choice → Type 0) (table : List Choice) (name : Word) (c : Choice) → AllByRecursion P table → choice_of table name ≡ Some c
    → P c × (c.name ≡ name)
found_has P [] name c all is = cc
found_has P (d ∷ table) name c all is = go (bytes_eq d.name name) refl is (λ found. found_has P table name c all.1 found)
  where
    go : (b : Bool) → bytes_eq d.name name ≡ b → cond b (Some d) (choice_of table name) ≡ Some c
        → (choice_of table name ≡ Some c → P c × (c.name ≡ name)) → P c × (c.name ≡ name)
    go true same is more =
        let first : d ≡ c = cc in
        (subst P first all.0, ap (λ (x : Choice). x.name) (sym first) ∙ (bytes_eq-Decides d.name name).0 same)
    go false same is more = more is

-- ---- what a word is with both tables

data Both (word : Word) : Type 0 where
  a_part : (part : Part) → reading play_options word ≡ whole part → reading options word ≡ whole part → (is_known part ≡ true
      → plain part ≡ true) → Both word
  an_option : (name : Word) → reading play_options word ≡ awaits name → reading options word ≡ awaits name
      → among name other_numbers ≡ false → Both word
  other_part : (part : Part) → reading play_options word ≡ whole (stray word) → reading options word ≡ whole part
      → plain part ≡ false → Both word
  other_option : (name : Word) → reading play_options word ≡ whole (stray word) → reading options word ≡ awaits name
      → among name other_numbers ≡ true → Both word

module _ (word text : Word) (dash : is_dashed word ≡ true) (goes : behind_hyphens word ≡ Some text) where
  abbrev typed : Word
  typed = before_first is_equals text

  -- an option that both have
  shared_word : (name : Word) (takes : Takes) (attached : Option Word) → value_in text ≡ attached
      → choice_of play_options typed ≡ Some (record { name = name; takes = takes })
      → choice_of options typed ≡ Some (record { name = name; takes = takes })
      → among name other_flags ≡ false → among name other_numbers ≡ false → Both word
  shared_word name nothing None has one all no_flag no_number =
      a_part (flag name) (rw (dash, goes, one, has) refl) (rw (dash, goes, all, has) refl) (λ known. ap not no_flag)
  shared_word name nothing (Some value) has one all no_flag no_number =
      a_part (stray word) (rw (dash, goes, one, has) refl) (rw (dash, goes, all, has) refl) (λ known. known)
  shared_word name (number low high) None has one all no_flag no_number =
      an_option name (rw (dash, goes, one, has) refl) (rw (dash, goes, all, has) refl) no_number
  shared_word name (number low high) (Some value) has one all no_flag no_number =
      a_part (valued name value) (rw (dash, goes, one, has) refl) (rw (dash, goes, all, has) refl) (λ known. ap not no_number)

  -- an option that asks for something else
  flag_word : (name : Word) (attached : Option Word) → value_in text ≡ attached → choice_of play_options typed ≡ None
      → choice_of options typed ≡ Some (record { name = name; takes = nothing }) → among name other_flags ≡ true → Both word
  flag_word name None has none all other =
      other_part (flag name) (rw (dash, goes, none) refl) (rw (dash, goes, all, has) refl) (ap not other)
  flag_word name (Some value) has none all other =
      a_part (stray word) (rw (dash, goes, none) refl) (rw (dash, goes, all, has) refl) (λ known. known)

  number_word : (name : Word) (low high : ℕ) (attached : Option Word) → value_in text ≡ attached → choice_of play_options typed ≡ None
      → choice_of options typed ≡ Some (record { name = name; takes = number low high }) → among name other_numbers ≡ true
      → Both word
  number_word name low high None has none all other =
      other_option name (rw (dash, goes, none) refl) (rw (dash, goes, all, has) refl) other
  number_word name low high (Some value) has none all other =
      other_part (valued name value) (rw (dash, goes, none) refl) (rw (dash, goes, all, has) refl) (ap not other)

  one_word : (c : Choice) → choice_of play_options typed ≡ None → choice_of options typed ≡ Some c
      → IsOne c × (c.name ≡ typed) → Both word
  one_word c none all (ours found, name) = cc
  one_word c none all (a_flag takes other, name) =
      flag_word c.name (value_in text) refl none (all ∙ ap (λ t. Some (choice_with c.name t)) takes) other
  one_word c none all (a_number low high takes other, name) =
      number_word c.name low high (value_in text) refl none (all ∙ ap (λ t. Some (choice_with c.name t)) takes) other

  dashed_word : (one all : Option Choice) → choice_of play_options typed ≡ one → choice_of options typed ≡ all → Both word
  dashed_word (Some c) all is has =
      let found = found_has IsShared play_options typed c all_shared is in
      shared_word c.name c.takes (value_in text) refl is (ap (λ n. choice_of options n) (sym found.1) ∙ found.0.found)
      found.0.flag found.0.number
  dashed_word None None none has =
      a_part (stray word) (rw (dash, goes, none) refl) (rw (dash, goes, has) refl) (λ known. known)
  dashed_word None (Some c) none has = one_word c none has (found_has IsOne options typed c all_ones has)

both : (word : Word) → Both word
both word = go (is_dashed word) (behind_hyphens word) refl refl
  where
    go : (dash : Bool) (behind : Option Word) → is_dashed word ≡ dash → behind_hyphens word ≡ behind → Both word
    go false behind plain_word goes = a_part (file word) (rw plain_word refl) (rw plain_word refl) (λ known. refl)
    go true None dash goes = a_part (stray word) (rw (dash, goes) refl) (rw (dash, goes) refl) (λ known. known)
    go true (Some text) dash goes = dashed_word word text dash goes _ _ refl refl

-- ---- the parts of words

files_plain : (words : List Word) → list_all plain (map (λ w. file w) words) ≡ true
files_plain [] = refl
files_plain (word ∷ words) = files_plain words

abbrev small : Option Word → List Word → List Part
small waiting words = parts_after play_options waiting words

abbrev large : Option Word → List Word → List Part
large waiting words = parts_after options waiting words

-- the parts are the same with both tables, and none asks for something else
pub record Agree (waiting : Option Word) (words : List Word) : Type 0 where
  pub same : large waiting words ≡ small waiting words
  pub plain : list_all plain (small waiting words) ≡ true

-- behind a part that both have
behind_part : (waiting next : Option Word) (word : Word) (words : List Word) (part : Part)
    → small waiting (word ∷ words) ≡ part ∷ small next words → large waiting (word ∷ words) ≡ part ∷ large next words
    → plain part ≡ true → Agree next words → Agree waiting (word ∷ words)
behind_part waiting next word words part one all is_plain more = record {
  same = all ∙ ap (λ ps. part ∷ ps) more.same ∙ sym one;
  plain = subst (λ ps. list_all plain ps ≡ true) (sym one) (ap (λ b. b && list_all plain (small next words)) is_plain ∙ more.plain);
}

-- a number that an option waits for
value_parts : (table : List Choice) (name word : Word) (words : List Word)
    → parts_after table (Some name) (word ∷ words)
    ≡ (if is_dashed word then unvalued name else valued name word) ∷ parts_after table None words
unfolding parts_after
value_parts table name word words = refl

dashes_parts : (table : List Choice) (word : Word) (words : List Word) → bytes_eq word (codes "--") ≡ true
    → parts_after table None (word ∷ words) ≡ map (λ w. file w) words
unfolding parts_after
dashes_parts table word words is = rw is refl

known_tail : (part : Part) (ps qs : List Part) → ps ≡ part ∷ qs → list_all is_known ps ≡ true
    → (is_known part ≡ true) × (list_all is_known qs ≡ true)
known_tail part ps qs is known = both_parts _ _ (subst (λ z. list_all is_known z ≡ true) is known)

plain_tail : (part : Part) (ps qs : List Part) → ps ≡ part ∷ qs → list_all plain ps ≡ true
    → (plain part ≡ true) × (list_all plain qs ≡ true)
plain_tail part ps qs is known = both_parts _ _ (subst (λ z. list_all plain z ≡ true) is known)

-- an option of playing waits, or none
abbrev WaitsPlain : Option Word → Type 0
WaitsPlain None = Unit {0}
WaitsPlain (Some name) = among name other_numbers ≡ false

-- the rest of the words, whatever waits
abbrev Rest : List Word → Type 0
Rest words = (waiting : Option Word) → WaitsPlain waiting → list_all is_known (small waiting words) ≡ true → Agree waiting words

module _ (word : Word) (words : List Word) (rest : Rest words) where
  agree_waiting : (name : Word) → among name other_numbers ≡ false → list_all is_known (small (Some name) (word ∷ words)) ≡ true
      → Agree (Some name) (word ∷ words)
  agree_waiting name waits known =
      let part : Part = if is_dashed word then unvalued name else valued name word in
      let at = value_parts play_options name word words in
      let tail = known_tail part _ _ at known in
      behind_part (Some name) None word words part at (value_parts options name word words) (kept (is_dashed word) tail.0)
      (rest None tt tail.1)
    where
      kept : (b : Bool) → is_known (if b then unvalued name else valued name word) ≡ true
          → plain (if b then unvalued name else valued name word) ≡ true
      kept true never = cc
      kept false holds = ap not waits

  agree_both : list_all is_known (small None (word ∷ words)) ≡ true → bytes_eq word (codes "--") ≡ false → Both word
      → Agree None (word ∷ words)
  agree_both known other (a_part part small_is large_is is_plain) =
      let at = parts_whole play_options word words part other small_is in
      let tail = known_tail part _ _ at known in
      behind_part None None word words part at (parts_whole options word words part other large_is) (is_plain tail.0)
      (rest None tt tail.1)
  agree_both known other (an_option name small_is large_is no_number) =
      let at = parts_await play_options word words name other small_is in
      let more = rest (Some name) no_number (subst (λ ps. list_all is_known ps ≡ true) at known) in
      record {
        same = parts_await options word words name other large_is ∙ more.same ∙ sym at;
        plain = subst (λ ps. list_all plain ps ≡ true) (sym at) more.plain;
      }
  agree_both known other (other_part part small_is large_is is_other) =
      let never : false ≡ true =
      (known_tail (stray word) _ _ (parts_whole play_options word words (stray word) other small_is) known).0 in cc
  agree_both known other (other_option name small_is large_is is_other) =
      let never : false ≡ true =
      (known_tail (stray word) _ _ (parts_whole play_options word words (stray word) other small_is) known).0 in cc

  agree_idle : list_all is_known (small None (word ∷ words)) ≡ true → (b : Bool) → bytes_eq word (codes "--") ≡ b
      → Agree None (word ∷ words)
  agree_idle known true is = record {
    same = dashes_parts options word words is ∙ sym (dashes_parts play_options word words is);
    plain = subst (λ ps. list_all plain ps ≡ true) (sym (dashes_parts play_options word words is)) (files_plain words);
  }
  agree_idle known false is = agree_both known is (both word)

-- words that keep to the rules with the options of playing alone
pub agree : (words : List Word) (waiting : Option Word) → WaitsPlain waiting → list_all is_known (small waiting words) ≡ true
    → Agree waiting words
unfolding parts_after
agree [] None waits known = record { same = refl; plain = refl }
agree [] (Some name) waits known = cc
agree (word ∷ words) (Some name) waits known = agree_waiting word words (λ w p k. agree words w p k) name waits known
agree (word ∷ words) None waits known = agree_idle word words (λ w p k. agree words w p k) known _ refl

-- the same of words with no part that asks for something else
abbrev Back : List Word → Type 0
Back words = (waiting : Option Word) → list_all plain (large waiting words) ≡ true → large waiting words ≡ small waiting words

not_plain : {P : Type 0} (part : Part) (ps qs : List Part) → ps ≡ part ∷ qs → list_all plain ps ≡ true → plain part ≡ false → P
not_plain part ps qs at known is = let holds = (plain_tail part ps qs at known).0 in cc

waits_other : {P : Type 0} (words : List Word) (name : Word) → list_all plain (large (Some name) words) ≡ true
    → among name other_numbers ≡ true → P
unfolding parts_after
waits_other [] name known other = cc
waits_other {P = P} (w ∷ ws) name known other = by_dash (is_dashed w) (both_parts _ _ known).0
  where
    by_dash : (b : Bool) → plain (if b then unvalued name else valued name w) ≡ true → P
    by_dash true holds = cc
    by_dash false holds = let never : false ≡ true = sym (ap not other) ∙ holds in cc

module _ (word : Word) (words : List Word) (rest : Back words) where
  back_both : list_all plain (large None (word ∷ words)) ≡ true → bytes_eq word (codes "--") ≡ false → Both word
      → large None (word ∷ words) ≡ small None (word ∷ words)
  back_both known other (a_part part small_is large_is is_plain) =
      let at = parts_whole options word words part other large_is in
      at ∙ ap (λ ps. part ∷ ps) (rest None (plain_tail part _ _ at known).1)
      ∙ sym (parts_whole play_options word words part other small_is)
  back_both known other (an_option name small_is large_is no_number) =
      let at = parts_await options word words name other large_is in
      at ∙ rest (Some name) (subst (λ ps. list_all plain ps ≡ true) at known)
      ∙ sym (parts_await play_options word words name other small_is)
  back_both known other (other_part part small_is large_is is_other) =
      not_plain part _ _ (parts_whole options word words part other large_is) known is_other
  back_both known other (other_option name small_is large_is is_other) =
      waits_other words name (subst (λ ps. list_all plain ps ≡ true) (parts_await options word words name other large_is) known) is_other

  back_idle : list_all plain (large None (word ∷ words)) ≡ true → (b : Bool) → bytes_eq word (codes "--") ≡ b
      → large None (word ∷ words) ≡ small None (word ∷ words)
  back_idle known true is = dashes_parts options word words is ∙ sym (dashes_parts play_options word words is)
  back_idle known false is = back_both known is (both word)

pub agree_back : (words : List Word) (waiting : Option Word) → list_all plain (large waiting words) ≡ true
    → large waiting words ≡ small waiting words
unfolding parts_after
agree_back [] None known = refl
agree_back [] (Some name) known = refl
agree_back (word ∷ words) (Some name) known =
    ap (λ ps. (if is_dashed word then unvalued name else valued name word) ∷ ps)
    (agree_back words None (both_parts _ _ known).1)
agree_back (word ∷ words) None known = back_idle word words (λ w k. agree_back words w k) known _ refl
