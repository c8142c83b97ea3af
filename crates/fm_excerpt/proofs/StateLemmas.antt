-- A table of what messages set: one message more, and the messages of the table.
use Rattle.std.proofs.Common.{◌≡◌, ℕ, ◌+◌, ◌*◌, ◌<◌, ◌≤◌, ◌^◌, Bool, true, false, cond, nat_eq, nat_lt, List, [], ◌∷◌, ◌++◌, length, get_or, set, replicate, Option, Some, None, IfSome, IsTrue, refl, sym, ◌∙◌, ap, subst, arith, append_assoc}
use Rattle.std.proofs.lemmas.List.{append-nil, get_or-set_same, get_or-set_other, get_or-replicate, get_or_past, length-replicate}
use Rattle.std.proofs.lemmas.Bool.Decides.{nat_tests}
use Rattle.fm_msg.specs.declared.msg.Msg.{Msg}
use Rattle.fm_msg.specs.Message.{is_in_range}
use Rattle.fm_read.specs.Reading.{Pair}
use Rattle.fm_read.specs.Decoded.{decoded, message_from, of_data, data_bytes, in_range, and_message}
use Rattle.fm_read.specs.Written.{time_after}
use Rattle.fm_read.specs.declared.limits.TheConstants.{MAX_FILE}
use Rattle.fm_excerpt.specs.Last.{or_else, last_value}
use Rattle.fm_excerpt.specs.Excerpt.{before}
use Rattle.fm_excerpt.specs.Table.{slot_of, in_slot, at_slot, Holds, SlotsAreInRange}
use Rattle.fm_excerpt.specs.declared.state.TheConstants.{SLOTS}

pub or_else_assoc : {A : Type 0} (x y z : Option A) → or_else (or_else x y) z ≡ or_else x (or_else y z)
or_else_assoc (Some x) y z = refl
or_else_assoc None y z = refl

none_last : {A : Type 0} (x : Option A) → or_else None x ≡ or_else x None
none_last (Some x) = refl
none_last None = refl

-- the last value with a message more
pub last_more : {A : Type 0} (f : Msg → Option A) (before : List Msg) (m : Msg) →
    last_value f (before ++ m ∷ []) ≡ or_else (f m) (last_value f before)
last_more f [] m = none_last (f m)
last_more f (x ∷ before) m =
    ap (λ z. or_else z (f x)) (last_more f before m) ∙ or_else_assoc (f m) (last_value f before) (f x)

-- ---- the table

-- nothing is set
pub holds_nothing : Holds (replicate SLOTS None) []
holds_nothing = λ i less. get_or-replicate SLOTS i None None less

none_there : (n i : ℕ) → get_or (replicate {A = Option Msg} n None) i None ≡ None
none_there n i = by_test (nat_lt i n) refl
  where
    by_test : (b : Bool) → nat_lt i n ≡ b → get_or (replicate {A = Option Msg} n None) i None ≡ None
    by_test true is = get_or-replicate n i None None (grind (arith, nat_tests))
    by_test false is =
        let behind : n ≤ i = grind (arith, nat_tests) in
        get_or_past (replicate n None) i None (subst (λ k. k ≤ i) (sym (length-replicate {A = Option Msg} n None)) behind)

-- and so all that is set is in range
pub nothing_in_range : SlotsAreInRange (replicate SLOTS None)
nothing_in_range = λ i. subst (λ o. IfSome o (λ m. IsTrue (is_in_range m))) (sym (none_there SLOTS i)) tt

-- a value in its slot, and every other slot as it was
set_is : (xs : List (Option Msg)) (i j : ℕ) (b : Bool) (m : Msg) (old : Option Msg) → nat_eq i j ≡ b → i < length xs →
    get_or xs j None ≡ old → get_or (set xs i (Some m)) j None ≡ or_else (cond b (Some m) None) old
set_is xs i j true m old is fits was =
    let same : i ≡ j = grind (arith, nat_tests) in
    ap (λ k. get_or (set xs i (Some m)) k None) (sym same) ∙ get_or-set_same xs i (Some m) None fits
set_is xs i j false m old is fits was =
    get_or-set_other xs i j (Some m) None (λ same. absurd (grind (arith, nat_tests))) ∙ was

-- a message that sets something
pub holds_set : (slots : List (Option Msg)) (ms : List Msg) (m : Msg) (j : ℕ) → slot_of m ≡ Some j → j < SLOTS → length slots ≡ SLOTS →
    Holds slots ms → Holds (set slots j (Some m)) (ms ++ m ∷ [])
holds_set slots ms m j slot there long had = λ i less.
    set_is slots j i (nat_eq j i) m (last_value (at_slot i) ms) refl (omega arith) (had i less)
    ∙ ap (λ p. or_else (in_slot i p m) (last_value (at_slot i) ms)) (sym slot) ∙ sym (last_more (at_slot i) ms m)

-- a message that sets nothing
pub holds_other : (slots : List (Option Msg)) (ms : List Msg) (m : Msg) → slot_of m ≡ None → Holds slots ms → Holds slots (ms ++ m ∷ [])
holds_other slots ms m slot had = λ i less.
    had i less ∙ ap (λ p. or_else (in_slot i p m) (last_value (at_slot i) ms)) (sym slot) ∙ sym (last_more (at_slot i) ms m)

-- a message in range keeps the table in range
pub set_in_range : (slots : List (Option Msg)) (m : Msg) (j : ℕ) → j < length slots → IsTrue (is_in_range m) → SlotsAreInRange slots →
    SlotsAreInRange (set slots j (Some m))
set_in_range slots m j there fits had = λ i. by_test i (nat_eq j i) refl
  where
    by_test : (i : ℕ) (b : Bool) → nat_eq j i ≡ b → IfSome (get_or (set slots j (Some m)) i None) (λ x. IsTrue (is_in_range x))
    by_test i true is =
        subst (λ o. IfSome o (λ x. IsTrue (is_in_range x))) (sym (set_is slots j i true m _ is there refl)) fits
    by_test i false is =
        subst (λ o. IfSome o (λ x. IsTrue (is_in_range x))) (sym (set_is slots j i false m _ is there refl)) (had i)

-- ---- along a track

-- every message is in range
abbrev pub EachFits : List Msg → Type 0
EachFits [] = Unit {0}
EachFits (m ∷ ms) = (is_in_range m ≡ true) × EachFits ms

from_fits : (status : ℕ) (bytes : List ℕ) (m : Msg) → message_from status bytes ≡ Some m → is_in_range m ≡ true
unfolding message_from
from_fits status bytes m is = by_message (of_data status (data_bytes bytes)) is
  where
    by_message : (o : Option Msg) → in_range o ≡ Some m → is_in_range m ≡ true
    by_message None e = absurd cc
    by_message (Some x) e = by_test (is_in_range x) refl e
      where
        by_test : (b : Bool) → is_in_range x ≡ b → cond b (Some x) None ≡ Some m → is_in_range m ≡ true
        by_test true fits same = let one : x ≡ m = cc in subst (λ y. is_in_range y ≡ true) one fits
        by_test false fits same = absurd cc

-- the messages of a track are
pub before_fits : (begin now : ℕ) (es : List Pair) → EachFits (before begin (decoded now es))
before_fits begin now [] = tt
before_fits begin now (e ∷ es) =
    by_message (message_from e.status e.bytes) (λ m is. from_fits e.status e.bytes m is) (before_fits begin (now + e.delta) es)
  where
    by_message : (o : Option Msg) → ((m : Msg) → o ≡ Some m → is_in_range m ≡ true) →
        EachFits (before begin (decoded (now + e.delta) es)) → EachFits (before begin (and_message (now + e.delta) o
        (decoded (now + e.delta) es)))
    by_message None fits later = later
    by_message (Some m) fits later = by_test (nat_lt (now + e.delta) begin)
      where
        by_test : (b : Bool) → EachFits (cond b (m ∷ []) [] ++ before begin (decoded (now + e.delta) es))
        by_test true = (fits m refl, later)
        by_test false = later

-- the table at a tick: with what is left of a track, it makes the whole
pub record Going (slots : List (Option Msg)) (begin now : ℕ) (left all : List Pair) : Type 0 where
  pub done : List Msg
  pub holds : Holds slots done
  pub whole : done ++ before begin (decoded now left) ≡ before begin (decoded 0 all)
  pub early : now + 2 ^ 32 * length left ≤ 2 ^ 57
  pub end : time_after now left ≡ time_after 0 all

-- before the first entry
pub state_begun : (slots : List (Option Msg)) (begin : ℕ) (all : List Pair) → Holds slots [] → length all ≤ MAX_FILE →
    Going slots begin 0 all all
state_begun slots begin all holds few = record { done = []; holds = holds; whole = refl; early = omega arith; end = refl }

-- an entry that is no message
pub state_skipped : (slots : List (Option Msg)) (begin now : ℕ) (e : Pair) (es all : List Pair) → message_from e.status e.bytes ≡ None →
    e.delta < 2 ^ 32 → Going slots begin now (e ∷ es) all → Going slots begin (now + e.delta) es all
state_skipped slots begin now e es all is small had = record {
  done = had.done;
  holds = had.holds;
  whole =
      ap (λ o. had.done ++ before begin (and_message (now + e.delta) o (decoded (now + e.delta) es))) (sym is) ∙ had.whole;
  early = omega (arith, had.early);
  end = had.end;
}

-- a message that is not before the tick
pub state_passed : (slots : List (Option Msg)) (begin now : ℕ) (e : Pair) (es all : List Pair) (m : Msg) →
    message_from e.status e.bytes ≡ Some m → nat_lt (now + e.delta) begin ≡ false → e.delta < 2 ^ 32 →
    Going slots begin now (e ∷ es) all → Going slots begin (now + e.delta) es all
state_passed slots begin now e es all m is late small had = record {
  done = had.done;
  holds = had.holds;
  whole =
      ap (λ b. had.done ++ (cond b (m ∷ []) [] ++ before begin (decoded (now + e.delta) es))) (sym late)
      ∙ ap (λ o. had.done ++ before begin (and_message (now + e.delta) o (decoded (now + e.delta) es))) (sym is) ∙ had.whole;
  early = omega (arith, had.early);
  end = had.end;
}

-- a message before the tick
pub state_taken : (slots taken : List (Option Msg)) (begin now : ℕ) (e : Pair) (es all : List Pair) (m : Msg) →
    message_from e.status e.bytes ≡ Some m → nat_lt (now + e.delta) begin ≡ true → e.delta < 2 ^ 32 →
    ((ms : List Msg) → Holds slots ms → Holds taken (ms ++ m ∷ [])) →
    Going slots begin now (e ∷ es) all → Going taken begin (now + e.delta) es all
state_taken slots taken begin now e es all m is early small takes had = record {
  done = had.done ++ m ∷ [];
  holds = takes had.done had.holds;
  whole =
      append_assoc had.done (m ∷ []) (before begin (decoded (now + e.delta) es))
      ∙ ap (λ b. had.done ++ (cond b (m ∷ []) [] ++ before begin (decoded (now + e.delta) es))) (sym early)
      ∙ ap (λ o. had.done ++ before begin (and_message (now + e.delta) o (decoded (now + e.delta) es))) (sym is) ∙ had.whole;
  early = omega (arith, had.early);
  end = had.end;
}

-- behind the last entry
pub state_done : (slots : List (Option Msg)) (begin now : ℕ) (all : List Pair) → Going slots begin now [] all →
    Holds slots (before begin (decoded 0 all))
state_done slots begin now all had = subst (Holds slots) (sym (append-nil had.done) ∙ had.whole) had.holds
