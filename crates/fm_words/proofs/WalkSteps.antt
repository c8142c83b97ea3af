-- One word of clap's walk at the command of a table, and what it is to pass or to fail from there.
use Rattle.std.proofs.Common.{◌≡◌, ℕ, Bool, true, false, List, [], ◌∷◌, Option, Some, None, refl, sym, subst, codes}
use Rattle.std.specs.List.{fold}
use Rattle.std.specs.Str.{bytes_eq}
use Rattle.std.proofs.lemmas.Slice.Eq.{bytes_eq-Decides}
use Rattle.clap.specs.Lexer.{long_of}
use Rattle.clap.specs.Faults.{flags_fault, other_fault, settle_fault, turn_fault, use_fault, walk_fault}
use Rattle.clap.specs.Kinds.{Kinds, or_else}
use Rattle.clap.specs.Walk.{Held, Row, Text, Waiting, Walk, arg_by_long, idle, is_pending, option, settled, settled_rows, used, walked}
use Rattle.fm_words.specs.Rules.{Choice, Takes, nothing, number}
use Rattle.fm_words.specs.Settings.{has_fault}
use Rattle.fm_words.proofs.TableLemmas.{and_false, built_shape, by_short, in_rule, no_third, option_rule, out_rule, rules_for}
use Rattle.fm_words.proofs.UseLemmas.{IsKnown, by_id, choice_with}
use Rattle.fm_words.proofs.WordLemmas.{IsPlain, IsShort}

-- ---- where the walk stands

-- an argument with its values so far
abbrev pub Pending : Type 0
Pending = Option (Text × List Text)

-- what is held between two words
abbrev pub held_with : List Row → Pending → Held
held_with rows pending = record { rows = rows; pending = pending; skip = 0 }

-- before a word `--`, and behind it
abbrev pub before : List Row → Pending → Waiting → ℕ → Walk
before rows pending waiting position = record {
  held = held_with rows pending;
  waiting = waiting;
  position = position;
  is_trailing = false;
  stopped = None;
}

-- behind the word `--`
abbrev pub behind : List Row → Pending → Waiting → ℕ → Walk
behind rows pending waiting position = record (before rows pending waiting position) { is_trailing = true }

-- ---- faults

-- a first fault counts
pub or_else_first : (a b : Kinds) → has_fault a ≡ true → has_fault (or_else a b) ≡ true
or_else_first [] b is = cc
or_else_first (kind ∷ kinds) b is = is

-- nothing behind a fault
pub or_else_none : (a : Kinds) → or_else a [] ≡ a
or_else_none [] = refl
or_else_none (kind ∷ kinds) = refl

-- ---- passing and failing

module _ (table : List Choice) where
  abbrev late : Walk → Kinds
  late w = settle_fault (rules_for table) false w.held

  -- where the walk ends
  abbrev pub ended : Walk → List Text → Walk
  ended w words = fold (walked (rules_for table) []) w words

  -- the walk has no fault, and these rows at its end
  pub record Passes (w : Walk) (words : List Text) (rows : List Row) : Type 0 where
    pub walk : walk_fault (built_shape table) [] w words ≡ []
    pub settle : late (ended w words) ≡ []
    pub found : (settled (rules_for table) (ended w words).held).rows ≡ rows
    pub stopped : (ended w words).stopped ≡ None

  -- the walk has a fault, or its end has
  abbrev pub Fails : Walk → List Text → Type 0
  Fails w words = has_fault (or_else (walk_fault (built_shape table) [] w words) (late (ended w words))) ≡ true

  -- either, by a test
  abbrev pub Comes : Bool → Walk → List Text → List Row → Type 0
  Comes true w words rows = Passes w words rows
  Comes false w words rows = Fails w words

  -- a word that has a fault
  pub fails_at : (w : Walk) (word : Text) (words : List Text) → has_fault (turn_fault (built_shape table) [] w word) ≡ true
      → Fails w (word ∷ words)
  unfolding walk_fault
  fails_at w word words is = or_else_first _ _ (or_else_first _ _ is)

  -- a word that has none
  pub goes_on : (passes : Bool) (w next : Walk) (word : Text) (words : List Text) (rows : List Row)
      → turn_fault (built_shape table) [] w word ≡ [] → walked (rules_for table) [] w word ≡ next → Comes passes next words rows
      → Comes passes w (word ∷ words) rows
  unfolding walk_fault
  goes_on true w next word words rows none is rest =
      let rest_of : Passes (walked (rules_for table) [] w word) words rows = subst (λ (x : Walk). Passes x words rows) (sym is) rest in
      record { walk = rw none rest_of.walk; settle = rest_of.settle; found = rest_of.found; stopped = rest_of.stopped }
  goes_on false w next word words rows none is rest =
      let rest_of : Fails (walked (rules_for table) [] w word) words = subst (λ (x : Walk). Fails x words) (sym is) rest in
      rw none rest_of

  -- ---- a word for a positional

  -- the first name settles what is pending
  pub source_turn : (rows : List Row) (pending : Pending) (word : Text) → IsPlain word
      → turn_fault (built_shape table) [] (before rows pending idle 1) word ≡ settle_fault (rules_for table) false (held_with rows pending)
  source_turn rows pending word plain = rw (plain.dashes, plain.long, plain.short, and_false (is_pending in_rule pending)) refl

  -- and is pending then
  pub source_walked : (rows : List Row) (pending : Pending) (word : Text) → IsPlain word
      → walked (rules_for table) [] (before rows pending idle 1) word ≡ before (settled_rows (rules_for table) pending rows)
      (Some (codes "IN", word ∷ [])) idle 2
  unfolding walked
  source_walked rows pending word plain = rw (plain.dashes, plain.long, plain.short, and_false (is_pending in_rule pending)) refl

  -- so does the second
  pub target_turn : (rows : List Row) (pending : Pending) (word : Text) → IsPlain word
      → turn_fault (built_shape table) [] (before rows pending idle 2) word ≡ settle_fault (rules_for table) false (held_with rows pending)
  target_turn rows pending word plain = rw (plain.dashes, plain.long, plain.short, and_false (is_pending out_rule pending)) refl

  -- and is pending then
  pub target_walked : (rows : List Row) (pending : Pending) (word : Text) → IsPlain word
      → walked (rules_for table) [] (before rows pending idle 2) word ≡ before (settled_rows (rules_for table) pending rows)
      (Some (codes "OUT", word ∷ [])) idle 3
  unfolding walked
  target_walked rows pending word plain = rw (plain.dashes, plain.long, plain.short, and_false (is_pending out_rule pending)) refl

  -- a third is refused
  pub third_turn : (rows : List Row) (pending : Pending) (word : Text) → IsPlain word
      → has_fault (turn_fault (built_shape table) [] (before rows pending idle 3) word) ≡ true
  third_turn rows pending word plain = rw (plain.dashes, plain.long, plain.short, no_third table) refl

  -- ---- a word that is an option of the table

  -- the word names an option, with what is attached to it
  pub record IsOption (word name : Text) (takes : Takes) (attached : Option Text) : Type 0 where
    pub typed : Text
    pub dashes : bytes_eq word (codes "--") ≡ false
    pub long : long_of word ≡ Some (typed, attached)
    pub arg : arg_by_long (rules_for table) typed ≡ Some (option_rule (choice_with name takes))

  -- a flag settles what is pending, and is used
  pub flag_turn : (rows : List Row) (pending : Pending) (position : ℕ) (word name : Text) → IsOption word name nothing None
      → turn_fault (built_shape table) [] (before rows pending idle position) word
      ≡ or_else (settle_fault (rules_for table) false (held_with rows pending))
      (use_fault false (option_rule (choice_with name nothing)) [] (settled_rows (rules_for table) pending rows))
  flag_turn rows pending position word name o = rw (o.dashes, o.long, o.arg) (or_else_none _)

  -- with these rows
  pub flag_walked : (rows : List Row) (pending : Pending) (position : ℕ) (word name : Text) → IsOption word name nothing None
      → walked (rules_for table) [] (before rows pending idle position) word
      ≡ before (used (option_rule (choice_with name nothing)) [] (settled_rows (rules_for table) pending rows)) None idle position
  unfolding walked
  flag_walked rows pending position word name o = rw (o.dashes, o.long, o.arg) refl

  -- so is an option with its number attached
  pub valued_turn : (rows : List Row) (pending : Pending) (position : ℕ) (word name value : Text) (low high : ℕ)
      → IsOption word name (number low high) (Some value)
      → turn_fault (built_shape table) [] (before rows pending idle position) word
      ≡ or_else (settle_fault (rules_for table) false (held_with rows pending))
      (use_fault false (option_rule (choice_with name (number low high))) (value ∷ []) (settled_rows (rules_for table) pending rows))
  valued_turn rows pending position word name value low high o = rw (o.dashes, o.long, o.arg) (or_else_none _)

  -- with these rows
  pub valued_walked : (rows : List Row) (pending : Pending) (position : ℕ) (word name value : Text) (low high : ℕ)
      → IsOption word name (number low high) (Some value)
      → walked (rules_for table) [] (before rows pending idle position) word
      ≡ before (used (option_rule (choice_with name (number low high))) (value ∷ [])
      (settled_rows (rules_for table) pending rows)) None idle position
  unfolding walked
  valued_walked rows pending position word name value low high o = rw (o.dashes, o.long, o.arg) refl

  -- an option without it settles what is pending
  pub awaits_turn : (rows : List Row) (pending : Pending) (position : ℕ) (word name : Text) (low high : ℕ)
      → IsOption word name (number low high) None
      → turn_fault (built_shape table) [] (before rows pending idle position) word
      ≡ settle_fault (rules_for table) false (held_with rows pending)
  awaits_turn rows pending position word name low high o = rw (o.dashes, o.long, o.arg) (or_else_none _)

  -- and waits
  pub awaits_walked : (rows : List Row) (pending : Pending) (position : ℕ) (word name : Text) (low high : ℕ)
      → IsOption word name (number low high) None
      → walked (rules_for table) [] (before rows pending idle position) word
      ≡ before (settled_rows (rules_for table) pending rows) (Some (name, [])) (option name) position
  unfolding walked
  awaits_walked rows pending position word name low high o = rw (o.dashes, o.long, o.arg) refl

  -- ---- a word that has a fault of its own, or behind what is pending

  -- a flag takes no value
  pub attached_to_flag : (rows : List Row) (pending : Pending) (position : ℕ) (word name value : Text)
      → IsOption word name nothing (Some value)
      → has_fault (turn_fault (built_shape table) [] (before rows pending idle position) word) ≡ true
  attached_to_flag rows pending position word name value o = rw (o.dashes, o.long, o.arg) refl

  -- no option has the long name
  pub unknown_long : (h : Held) (waiting : Waiting) (position : ℕ) (word typed : Text) (attached : Option Text)
      → bytes_eq word (codes "--") ≡ false → long_of word ≡ Some (typed, attached)
      → arg_by_long (rules_for table) typed ≡ None → has_fault (other_fault (built_shape table) None word h) ≡ true
  unknown_long h waiting position word typed attached dashes long arg = rw (dashes, long, arg) refl

  -- none has a short one
  pub unknown_short : (rows : List Row) (pending : Pending) (word : Text) → IsShort word
      → has_fault (other_fault (built_shape table) None word (held_with rows pending)) ≡ true
  unfolding flags_fault
  unknown_short rows pending word short = rw (short.dashes, short.long, short.short, short.first, by_short table short.letter) refl

  -- ---- the number that an option waits for

  -- it has no fault at once
  pub value_turn : (rows : List Row) (position : ℕ) (word name : Text) (low high : ℕ) → IsPlain word
      → turn_fault (built_shape table) [] (before rows (Some (name, [])) (option name) position) word ≡ []
  value_turn rows position word name low high plain = rw (plain.dashes, plain.long, plain.short) refl

  -- and is pending then
  pub value_walked : (rows : List Row) (position : ℕ) (word name : Text) (low high : ℕ) → IsPlain word
      → IsKnown table name (number low high)
      → walked (rules_for table) [] (before rows (Some (name, [])) (option name) position) word
      ≡ before rows (Some (name, word ∷ [])) idle position
  unfolding walked
  value_walked rows position word name low high plain known =
      rw (plain.dashes, plain.long, plain.short, by_id table name (number low high) known, (bytes_eq-Decides name name).1 refl) refl

  -- ---- the word `--`, and words behind it

  -- `--` has no fault
  pub dashes_turn : (rows : List Row) (pending : Pending) (position : ℕ)
      → turn_fault (built_shape table) [] (before rows pending idle position) (codes "--") ≡ []
  dashes_turn rows pending position = refl

  -- and leaves what is pending
  pub dashes_walked : (rows : List Row) (pending : Pending) (position : ℕ)
      → walked (rules_for table) [] (before rows pending idle position) (codes "--") ≡ behind rows pending idle position
  unfolding walked
  dashes_walked rows pending position = refl

  -- the first name, whatever it begins with
  pub source_behind_turn : (rows : List Row) (pending : Pending) (waiting : Waiting) (word : Text)
      → turn_fault (built_shape table) [] (behind rows pending waiting 1) word
      ≡ settle_fault (rules_for table) false (held_with rows pending)
  source_behind_turn rows pending waiting word = rw (and_false (is_pending in_rule pending)) refl

  -- is pending then
  pub source_behind_walked : (rows : List Row) (pending : Pending) (waiting : Waiting) (word : Text)
      → walked (rules_for table) [] (behind rows pending waiting 1) word
      ≡ behind (settled_rows (rules_for table) pending rows) (Some (codes "IN", word ∷ [])) idle 2
  unfolding walked
  source_behind_walked rows pending waiting word = rw (and_false (is_pending in_rule pending)) refl

  -- the second
  pub target_behind_turn : (rows : List Row) (pending : Pending) (waiting : Waiting) (word : Text)
      → turn_fault (built_shape table) [] (behind rows pending waiting 2) word
      ≡ settle_fault (rules_for table) false (held_with rows pending)
  target_behind_turn rows pending waiting word = rw (and_false (is_pending out_rule pending)) refl

  -- is pending then
  pub target_behind_walked : (rows : List Row) (pending : Pending) (waiting : Waiting) (word : Text)
      → walked (rules_for table) [] (behind rows pending waiting 2) word
      ≡ behind (settled_rows (rules_for table) pending rows) (Some (codes "OUT", word ∷ [])) idle 3
  unfolding walked
  target_behind_walked rows pending waiting word = rw (and_false (is_pending out_rule pending)) refl

  -- a third is refused
  pub third_behind_turn : (rows : List Row) (pending : Pending) (waiting : Waiting) (word : Text)
      → has_fault (turn_fault (built_shape table) [] (behind rows pending waiting 3) word) ≡ true
  third_behind_turn rows pending waiting word = rw (no_third table) refl
