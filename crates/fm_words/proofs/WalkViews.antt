-- What a word is to the rules and to clap at once, and that a fault which is still to come does come.
use Rattle.std.proofs.Common.{◌≡◌, ◌∙◌, ◌&&◌, ℕ, Bool, true, false, cond, not, List, [], ◌∷◌, Option, Some, None, option_map, refl, sym, ap, subst, codes, suc, arith}
use Rattle.std.specs.List.{All, before_first, find, list_all}
use Rattle.std.specs.Str.{IsUtf8, bytes_eq}
use Rattle.std.proofs.lemmas.Slice.Eq.{bytes_eq-Decides}
use Rattle.clap.specs.Faults.{other_fault, settle_fault, walk_fault}
use Rattle.clap.specs.Walk.{Row, Waiting, Walk, idle, option, walked}
use Rattle.fm_words.specs.Rules.{Choice, Takes, Word, awaits, behind_hyphens, choice_of, file, flag, is_dashed, is_equals, is_table, nothing, number, reading, stray, value_in, valued, whole}
use Rattle.fm_words.specs.Settings.{has_fault}
use Rattle.fm_words.proofs.TableLemmas.{built_shape, by_long, option_rule, rules_for}
use Rattle.fm_words.proofs.UseLemmas.{IsKnown, choice_with}
use Rattle.fm_words.proofs.WalkSteps.{Fails, IsOption, Pending, before, behind, dashes_turn, dashes_walked, fails_at, goes_on, held_with, or_else_first, source_behind_turn, source_turn, target_behind_turn, target_turn, third_behind_turn, third_turn, unknown_long, unknown_short}
use Rattle.fm_words.proofs.WordLemmas.{IsLong, IsPlain, long_word_is, plain_word_is, short_word_is}

-- ---- options that the table has

-- what is found passes both tests
pub found_passes : (test want : Choice → Bool) (table : List Choice) (choice : Choice) → find test table ≡ Some choice
    → list_all want table ≡ true → (test choice ≡ true) × (want choice ≡ true)
found_passes test want [] choice found all = cc
found_passes test want (first ∷ table) choice found all = go (test first) (want first) refl refl found all
    (found_passes test want table choice)
  where
    go : (t w : Bool) → test first ≡ t → want first ≡ w → cond t (Some first) (find test table) ≡ Some choice
        → (w && list_all want table) ≡ true
        → (find test table ≡ Some choice → list_all want table ≡ true → (test choice ≡ true) × (want choice ≡ true))
        → (test choice ≡ true) × (want choice ≡ true)
    go t false test_is want_is found all more = cc
    go true true test_is want_is found all more = let same : first ≡ choice = cc in
        (subst (λ (c : Choice). test c ≡ true) same test_is, subst (λ (c : Choice). want c ≡ true) same want_is)
    go false true test_is want_is found all more = more found all

-- two tests that hold
pub both_parts : (a b : Bool) → (a && b) ≡ true → (a ≡ true) × (b ≡ true)
both_parts true b is = (refl, is)
both_parts false b is = cc

-- a test that does not
pub is_not : (b : Bool) → not b ≡ true → b ≡ false
is_not true is = cc
is_not false is = refl

-- an option that is found has the name that was typed, which is no file
pub known_by : (table : List Choice) (typed name : Word) (takes : Takes) → is_table table ≡ true → choice_of table typed
    ≡ Some (choice_with name takes) → (name ≡ typed) × IsKnown table name takes
known_by table typed name takes ok found =
    let passes = found_passes (λ choice. bytes_eq choice.name typed) (λ choice. not (bytes_eq (codes "IN") choice.name) && not
    (bytes_eq (codes "OUT") choice.name)) table (choice_with name takes) found (both_parts _ _ ok).1 in
    let same : name ≡ typed = (bytes_eq-Decides name typed).0 passes.0 in
    let files = both_parts _ _ passes.1 in (
      same,
      record {
        found = subst (λ (n : Word). choice_of table n ≡ Some (choice_with name takes)) (sym same) found;
        no_source = is_not _ files.0;
        no_target = is_not _ files.1;
      },
    )

-- ---- texts

-- the first of them
pub first_of_all : (word : Word) (words : List Word) → All IsUtf8 (word ∷ words) → IsUtf8 word
first_of_all word words texts = texts 0 word (omega arith)

-- the others
pub rest_of_all : (word : Word) (words : List Word) → All IsUtf8 (word ∷ words) → All IsUtf8 words
rest_of_all word words texts = λ k d lt. texts (suc k) d (omega arith)

-- where the walk is: before the first name, the second, or behind both
pub data Place : Type 0 where
  first : Place
  second : Place
  past : Place

-- its number for clap
abbrev pub number_at : Place → ℕ
number_at first = 1
number_at second = 2
number_at past = 3

-- ---- what a word is

module _ (table : List Choice) where
  -- `--`, a name, an option with or without a value, or anything else
  pub data View (word : Word) : Type 0 where
    dashes : word ≡ codes "--" → View word
    plain : IsPlain word → is_dashed word ≡ false → reading table word ≡ whole (file word) → View word
    flag_alone : (name : Word) → IsKnown table name nothing → IsOption table word name nothing None
        → is_dashed word ≡ true → reading table word ≡ whole (flag name) → View word
    flag_valued : (name value : Word) → IsOption table word name nothing (Some value) → is_dashed word ≡ true → reading table word
        ≡ whole (stray word) → View word
    number_alone : (name : Word) (low high : ℕ) → IsKnown table name (number low high) → IsOption table word name (number low high) None
        → is_dashed word ≡ true → reading table word ≡ awaits name → View word
    number_valued : (name value : Word) (low high : ℕ) → IsKnown table name (number low high)
        → IsOption table word name (number low high) (Some value)
        → is_dashed word ≡ true → reading table word ≡ whole (valued name value) → View word
    unknown : bytes_eq word (codes "--") ≡ false → ((rows : List Row) (pending : Pending)
        → has_fault (other_fault (built_shape table) None word (held_with rows pending)) ≡ true)
        → is_dashed word ≡ true → reading table word ≡ whole (stray word) → View word

  -- an option of the table
  option_view : (word text : Word) (takes : Takes) (name : Word) → is_table table ≡ true → is_dashed word ≡ true → behind_hyphens word
      ≡ Some text → IsLong word text
      → choice_of table (before_first is_equals text) ≡ Some (choice_with name takes) → (attached : Option Word) → value_in text
      ≡ attached → View word
  option_view word text nothing name ok is_dash goes long found None none =
      let known = known_by table _ name nothing ok found in
      flag_alone name known.1 (record {
        typed = before_first is_equals text;
        dashes = long.dashes;
        long = rw (← none) long.long;
        arg = by_long table _ ∙ ap (option_map option_rule) found;
      }) is_dash (rw (is_dash, goes, found, none) refl)
  option_view word text nothing name ok is_dash goes long found (Some value) is =
      flag_valued name value (record {
        typed = before_first is_equals text;
        dashes = long.dashes;
        long = rw (← is) long.long;
        arg = by_long table _ ∙ ap (option_map option_rule) found;
      }) is_dash (rw (is_dash, goes, found, is) refl)
  option_view word text (number low high) name ok is_dash goes long found None none =
      let known = known_by table _ name (number low high) ok found in
      number_alone name low high known.1 (record {
        typed = before_first is_equals text;
        dashes = long.dashes;
        long = rw (← none) long.long;
        arg = by_long table _ ∙ ap (option_map option_rule) found;
      }) is_dash (rw (is_dash, goes, found, none) refl)
  option_view word text (number low high) name ok is_dash goes long found (Some value) is =
      let known = known_by table _ name (number low high) ok found in
      number_valued name value low high known.1 (record {
        typed = before_first is_equals text;
        dashes = long.dashes;
        long = rw (← is) long.long;
        arg = by_long table _ ∙ ap (option_map option_rule) found;
      }) is_dash (rw (is_dash, goes, found, is) refl)

  -- a word behind two hyphens
  long_view : (word text : Word) → is_table table ≡ true → is_dashed word ≡ true → behind_hyphens word ≡ Some text → IsLong word text
      → (found : Option Choice) → choice_of table (before_first is_equals text) ≡ found → View word
  long_view word text ok is_dash goes long None none =
      unknown long.dashes (λ rows pending. unknown_long table (held_with rows pending) idle 1 word _ _ long.dashes long.long
      (by_long table _ ∙ ap (option_map option_rule) none))
      is_dash (rw (is_dash, goes, none) refl)
  long_view word text ok is_dash goes long (Some choice) found =
      option_view word text choice.takes choice.name ok is_dash goes long found (value_in text) refl

  -- each text is one of these
  pub view : (word : Word) → is_table table ≡ true → IsUtf8 word → View word
  view word ok text = by_dashes (bytes_eq word (codes "--")) refl
    where
      by_text : (goes : Option Word) → is_dashed word ≡ true → bytes_eq word (codes "--") ≡ false → behind_hyphens word ≡ goes → View word
      by_text None is_dash other none =
          let short = short_word_is word is_dash other none text in
          unknown other (λ rows pending. unknown_short table rows pending word short) is_dash (rw (is_dash, none) refl)
      by_text (Some t) is_dash other goes = long_view word t ok is_dash goes (long_word_is word t goes)
          (choice_of table (before_first is_equals t)) refl

      by_hyphen : (b : Bool) → is_dashed word ≡ b → bytes_eq word (codes "--") ≡ false → View word
      by_hyphen true is_dash other = by_text (behind_hyphens word) is_dash other refl
      by_hyphen false is_plain other = plain (plain_word_is word is_plain) is_plain (rw is_plain refl)

      by_dashes : (b : Bool) → bytes_eq word (codes "--") ≡ b → View word
      by_dashes true is = dashes ((bytes_eq-Decides word (codes "--")).0 is)
      by_dashes false other = by_hyphen (is_dashed word) refl other

  -- ---- a fault that is still to come

  abbrev late : List Row → Pending → Type 0
  late rows pending = has_fault (settle_fault (rules_for table) false (held_with rows pending)) ≡ true

  -- a word with a hyphen brings it out, or has a fault of its own
  pub dashed_fails : (word : Word) (rows : List Row) (pending : Pending) → View word → is_dashed word ≡ true → bytes_eq word (codes "--")
      ≡ false → late rows pending
      → has_fault (other_fault (built_shape table) None word (held_with rows pending)) ≡ true
  dashed_fails word rows pending (dashes is) is_dash other due = cc (ap (λ (w : Word). bytes_eq w (codes "--")) is)
  dashed_fails word rows pending (plain looks not_dashed reads) is_dash other due = cc
  dashed_fails word rows pending (flag_alone name known o dash reads) is_dash other due = rw (o.dashes, o.long, o.arg)
      (or_else_first _ _ due)
  dashed_fails word rows pending (flag_valued name value o dash reads) is_dash other due = rw (o.dashes, o.long, o.arg) refl
  dashed_fails word rows pending (number_alone name low high known o dash reads) is_dash other due = rw (o.dashes, o.long, o.arg) due
  dashed_fails word rows pending (number_valued name value low high known o dash reads) is_dash other due = rw (o.dashes, o.long, o.arg)
      (or_else_first _ _ due)
  dashed_fails word rows pending (unknown no_dashes fault dash reads) is_dash other due = fault rows pending

  at_end : (w : Walk) → has_fault (settle_fault (rules_for table) false w.held) ≡ true → Fails table w []
  unfolding walk_fault
  at_end w due = due

  -- behind `--` the next name or the end brings it out
  pub behind_fails : (rows : List Row) (pending : Pending) (waiting : Waiting) (place : Place) (words : List Word) → late rows pending
      → Fails table (behind rows pending waiting (number_at place)) words
  behind_fails rows pending waiting place [] due = at_end _ due
  behind_fails rows pending waiting first (word ∷ words) due = fails_at table _ word words
      (rw (source_behind_turn table rows pending waiting word) due)
  behind_fails rows pending waiting second (word ∷ words) due = fails_at table _ word words
      (rw (target_behind_turn table rows pending waiting word) due)
  behind_fails rows pending waiting past (word ∷ words) due = fails_at table _ word words
      (third_behind_turn table rows pending waiting word)

  dashes_then : (rows : List Row) (pending : Pending) (name word : Word) (place : Place) → bytes_eq word (codes "--") ≡ true
      → walked (rules_for table) [] (before rows pending (option name) (number_at place)) word
      ≡ behind rows pending (option name) (number_at place)
  unfolding walked
  dashes_then rows pending name word place is = rw is refl

  -- a word with a hyphen where an option waits for its number, which it then lacks
  pub waiting_fails : (rows : List Row) (pending : Pending) (name : Word) (place : Place) (word : Word) (words : List Word)
      → is_table table ≡ true → IsUtf8 word → is_dashed word ≡ true
      → late rows pending → Fails table (before rows pending (option name) (number_at place)) (word ∷ words)
  waiting_fails rows pending name place word words ok text is_dash due = go (bytes_eq word (codes "--")) refl
    where
      go : (b : Bool) → bytes_eq word (codes "--") ≡ b → Fails table (before rows pending (option name) (number_at place)) (word ∷ words)
      go true is = goes_on table false _ (behind rows pending (option name) (number_at place)) word words [] (rw is refl)
          (dashes_then rows pending name word place is) (behind_fails rows pending (option name) place words due)
      go false is = fails_at table _ word words (or_else_first _ _ (dashed_fails word rows pending (view word ok text) is_dash is due))

  -- and so does any word where no option waits
  pub idle_fails : (rows : List Row) (pending : Pending) (place : Place) (words : List Word) → is_table table ≡ true → All IsUtf8 words
      → late rows pending
      → Fails table (before rows pending idle (number_at place)) words
  idle_fails rows pending place [] ok texts due = at_end _ due
  idle_fails rows pending place (word ∷ words) ok texts due = by_view (view word ok (first_of_all word words texts)) place
    where
      by_dash : (place : Place) → View word → is_dashed word ≡ true → bytes_eq word (codes "--") ≡ false
          → Fails table (before rows pending idle (number_at place)) (word ∷ words)
      by_dash place seen is_dash other = fails_at table _ word words (or_else_first _ _
          (dashed_fails word rows pending seen is_dash other due))

      by_view : View word → (place : Place) → Fails table (before rows pending idle (number_at place)) (word ∷ words)
      by_view (dashes is) place = subst (λ (w : Word). Fails table (before rows pending idle (number_at place)) (w ∷ words)) (sym is)
          (goes_on table false _ (behind rows pending idle (number_at place)) _ words []
          (dashes_turn table rows pending (number_at place)) (dashes_walked table rows pending (number_at place))
          (behind_fails rows pending idle place words due))
      by_view (plain looks not_dashed reads) first = fails_at table _ word words (rw (source_turn table rows pending word looks) due)
      by_view (plain looks not_dashed reads) second = fails_at table _ word words (rw (target_turn table rows pending word looks) due)
      by_view (plain looks not_dashed reads) past = fails_at table _ word words (third_turn table rows pending word looks)
      by_view (flag_alone name known o dash reads) place = by_dash place (flag_alone name known o dash reads) dash o.dashes
      by_view (flag_valued name value o dash reads) place = by_dash place (flag_valued name value o dash reads) dash o.dashes
      by_view (number_alone name low high known o dash reads) place = by_dash place
          (number_alone name low high known o dash reads) dash o.dashes
      by_view (number_valued name value low high known o dash reads) place = by_dash place
          (number_valued name value low high known o dash reads) dash o.dashes
      by_view (unknown no_dashes fault dash reads) place = by_dash place (unknown no_dashes fault dash reads) dash no_dashes
