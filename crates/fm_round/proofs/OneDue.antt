-- What is left from a pair on, and what is due of one process alone.
use Rattle.std.proofs.Common.{◌≡◌, ◌⊎◌, ℕ, zero, suc, ◌+◌, ◌<◌, ◌≤◌, List, [], ◌∷◌, ◌++◌, length, map, take, drop, set, Bool, true, false, Option, Some, refl, sym, ap, ap₂, ◌∙◌, subst, inl, inr, ⊎_elim, arith, append-nil, get_or-set_same, get_or-set_other, length-set}
use Rattle.std.specs.Prelude.{if◌then◌else◌}
use Rattle.std.proofs.lemmas.Bool.{cases_eq}
use Rattle.std.proofs.lemmas.List.{take-append-drop}
use Rattle.fm_msg.specs.Event.{TimedMessage}
use Rattle.fm_line.specs.declared.line.Line.{Line}
use Rattle.fm_line.specs.Line.{line}
use Rattle.fm_line.specs.Piece.{In}
use Rattle.fm_line.proofs.Members.{in_either, in_left, in_right}
use Rattle.fm_buffer.specs.Gather.{EventGather}
use Rattle.fm_buffer.specs.Outbox.{count_through, is_through}
use Rattle.fm_program.specs.Parts.{PlanParts}
use Rattle.fm_program.specs.Process.{plan_lines}
use Rattle.fm_round.specs.Lefts.{IsOwn, OwnFrom, joined}
use Rattle.fm_round.specs.Lanes.{IsNotPast, due, lane, left, lefts, no_lane, room_of, room_sum, without_due, yet}
use Rattle.fm_round.specs.Turns.{AllFrom, OwnDue}
use Rattle.fm_round.specs.declared.lane.Lane.{Lane}
use Rattle.fm_round.proofs.Ending.{empty_list}
use Rattle.fm_round.proofs.Gathering.{mapped_each}
use Rattle.fm_round.proofs.Order.{IsDue, stays_behind, taken_due}
use Rattle.fm_round.proofs.Parting.{back_in, back_of, own_front}
use Rattle.fm_round.proofs.Releasing.{own_at, parts, parts-back, parts-whole}

-- ---- what is left

-- what holds of each event that is left of each process holds of all that is left
pub lefts_all : (p : PlanParts) (ls : List Line) (ss : List Lane) (P : TimedMessage → Type 0)
    → ((j : ℕ) → j < length ss → (e : TimedMessage) → In e (left p (line ls j).events (lane ss j)) → P e)
    → (e : TimedMessage) → In e (joined (lefts p ls ss)) → P e
lefts_all p [] ss P each e i = absurd i
lefts_all p (l ∷ ls) [] P each e i = absurd i
lefts_all p (l ∷ ls) (s ∷ ss) P each e i =
    ⊎_elim (λ (j : In e (left p l.events s)). each 0 (omega arith) e j)
    (λ (j : In e (joined (lefts p ls ss))). lefts_all p ls ss P (λ k below. each (suc k) (omega arith)) e j)
    (in_either e (left p l.events s) (joined (lefts p ls ss)) i)

-- what is left of a process is among all that is left
in_lefts : (p : PlanParts) (ls : List Line) (ss : List Lane) (j : ℕ) (e : TimedMessage) → j < length ls → j < length ss
    → In e (left p (line ls j).events (lane ss j)) → In e (joined (lefts p ls ss))
in_lefts p [] ss j e a b i = absurd (omega arith)
in_lefts p (l ∷ ls) [] j e a b i = absurd (omega arith)
in_lefts p (l ∷ ls) (s ∷ ss) zero e a b i = in_left e (left p l.events s) (joined (lefts p ls ss)) i
in_lefts p (l ∷ ls) (s ∷ ss) (suc j) e a b i =
    in_right e (left p l.events s) (joined (lefts p ls ss)) (in_lefts p ls ss j e (omega arith) (omega arith) i)

-- what stays after a release was left before
stay_from : (p : PlanParts) (key : Option (ℕ × ℕ)) (ls : List Line) (ss : List Lane) (e : TimedMessage)
    → In e (joined (lefts p ls (map (without_due key) ss))) → In e (joined (lefts p ls ss))
stay_from p key ls ss e i =
    subst (λ (xss : List (List TimedMessage)). In e (joined xss)) (parts-whole p key ls ss)
    (back_in (parts p key ls ss) e
    (subst (λ (xss : List (List TimedMessage)). In e (joined xss)) (sym (parts-back p key ls ss)) i))

-- so what lies from a pair on does so after a release
pub from_stays : (p : PlanParts) (key : Option (ℕ × ℕ)) (ls : List Line) (ss : List Lane) (c m : ℕ) → AllFrom c m (lefts p ls ss)
    → AllFrom c m (lefts p ls (map (without_due key) ss))
from_stays p key ls ss c m from e i = from e (stay_from p key ls ss e i)

-- and what stays of each process does
pub from_backs : (p : PlanParts) (key : Option (ℕ × ℕ)) (ls : List Line) (ss : List Lane) (c m : ℕ) → AllFrom c m (lefts p ls ss)
    → AllFrom c m (map back_of (parts p key ls ss))
from_backs p key ls ss c m from =
    subst (AllFrom c m) (sym (parts-back p key ls ss)) (from_stays p key ls ss c m from)

-- ---- what is due of one process alone

-- what is taken of a queue was in it
in_taken : (n : ℕ) (xs : List TimedMessage) (e : TimedMessage) → In e (take n xs) → In e xs
in_taken n xs e i = subst (In e) (take-append-drop n xs) (in_left e (take n xs) (drop n xs) i)

-- where nothing is due, nothing is dropped
drop_same : (key : Option (ℕ × ℕ)) (xs : List TimedMessage) → take (count_through key xs) xs ≡ []
    → drop (count_through key xs) xs ≡ xs
drop_same key [] none = refl
drop_same key (x ∷ xs) none = by_test (is_through key x) none
  where
    by_test : (b : Bool) → take (if b then suc (count_through key xs) else 0) (x ∷ xs) ≡ []
        → drop (if b then suc (count_through key xs) else 0) (x ∷ xs) ≡ x ∷ xs
    by_test true never = cc
    by_test false same = refl

none_taken : (key : Option (ℕ × ℕ)) (s : Lane) → due key s ≡ [] → without_due key s ≡ s
none_taken key s none =
    ap (λ (es : List TimedMessage). record s { outbox = record s.outbox { events = es } }) (drop_same key s.outbox.events none)

joined_none : (f : Lane → List TimedMessage) (ss : List Lane) → ((j : ℕ) → j < length ss → f (lane ss j) ≡ [])
    → joined (map f ss) ≡ []
joined_none f [] none = refl
joined_none f (s ∷ ss) none =
    ap₂ (λ (xs ys : List TimedMessage). xs ++ ys) (none 0 (omega arith)) (joined_none f ss (λ j within. none (suc j) (omega arith)))

-- where only one list has events, these are all
joined_one : (f : Lane → List TimedMessage) (ss : List Lane) (m : ℕ) → m < length ss
    → ((j : ℕ) → j < length ss → (j ≡ m → ⊥) → f (lane ss j) ≡ []) → joined (map f ss) ≡ f (lane ss m)
joined_one f [] m there none = absurd (omega arith)
joined_one f (s ∷ ss) zero there none =
    ap (λ es. f s ++ es) (joined_none f ss (λ j within. none (suc j) (omega arith) (λ is. absurd (omega arith))))
    ∙ append-nil (f s)
joined_one f (s ∷ ss) (suc m) there none =
    ap₂ (λ (xs ys : List TimedMessage). xs ++ ys) (none 0 (omega arith) (λ is. absurd (omega arith)))
    (joined_one f ss m (omega arith) (λ j within apart. none (suc j) (omega arith) (λ is. apart (omega arith))))

-- the gather has room for what waits in one outbox
pub room_within : (ss : List Lane) (m : ℕ) → m < length ss → room_of (lane ss m) ≤ room_sum (map room_of ss)
room_within [] m there = absurd (omega arith)
room_within (s ∷ ss) zero there = omega arith
room_within (s ∷ ss) (suc m) there = let rest = room_within ss m (omega arith) in omega arith

module _ (key : ℕ × ℕ) (ss : List Lane) (own : OwnDue key ss) where
  -- what is due of all is what is due of it
  pub due_of_one : joined (map (due (Some key)) ss) ≡ due (Some key) (lane ss key.1)
  due_of_one = joined_one (due (Some key)) ss key.1 own.there own.others

  -- and taking it from all takes it from this one
  pub taken_of_one : set ss key.1 (without_due (Some key) (lane ss key.1)) ≡ map (without_due (Some key)) ss
  taken_of_one =
      mapped_each (without_due (Some key)) ss (set ss key.1 (without_due (Some key) (lane ss key.1)))
      (length-set ss key.1 (without_due (Some key) (lane ss key.1))) (λ k within. by_place k within (cases_eq k key.1))
    where
      by_place : (k : ℕ) → k < length ss → (k ≡ key.1) ⊎ (k ≡ key.1 → ⊥)
          → lane (set ss key.1 (without_due (Some key) (lane ss key.1))) k ≡ without_due (Some key) (lane ss k)
      by_place k within (inl same) =
          subst (λ (i : ℕ). lane (set ss key.1 (without_due (Some key) (lane ss key.1))) i ≡ without_due (Some key) (lane ss i)) (sym same)
          (get_or-set_same ss key.1 (without_due (Some key) (lane ss key.1)) no_lane own.there)
      by_place k within (inr apart) =
          get_or-set_other ss key.1 k (without_due (Some key) (lane ss key.1)) no_lane apart
          ∙ sym (none_taken (Some key) (lane ss k) (own.others k within apart))

  -- so what is gathered of it is what is due of all
  pub gathered_of_one : (gather new : EventGather) (s : Lane) → gather.events ≡ [] → s ≡ lane ss key.1
      → new ≡ record gather { events = gather.events ++ due (Some key) s } → new.events ≡ joined (map (due (Some key)) ss)
  gathered_of_one gather new s empty at is =
      ap (λ (x : EventGather). x.events) is
      ∙ ap₂ (λ (xs ys : List TimedMessage). xs ++ ys) empty (ap (due (Some key)) at)
      ∙ sym due_of_one

module _ (p : PlanParts) (ss : List Lane) (count : length ss ≡ length (plan_lines p)) (own : OwnFrom 0 (lefts p (plan_lines p) ss))
    (c m : ℕ) (there : m < length ss) (from : AllFrom c m (lefts p (plan_lines p) ss)) where
  -- what is left of a process is its own
  own_of : (j : ℕ) → j < length ss → IsOwn j (left p (line (plan_lines p) j).events (lane ss j))
  own_of j within =
      subst (λ (n : ℕ). IsOwn n (left p (line (plan_lines p) j).events (lane ss j))) zero_add
      (own_at p 0 (plan_lines p) ss j own (omega arith) within)
    where
      zero_add : 0 + j ≡ j
      zero_add = omega arith

  -- of no other process an event is due
  none_beside : (j : ℕ) → j < length ss → (j ≡ m → ⊥) → (e : TimedMessage) → In e (due (Some (c, m)) (lane ss j)) → ⊥
  none_beside j within apart e i =
      let waits = in_taken (count_through (Some (c, m)) (lane ss j).outbox.events) (lane ss j).outbox.events e i in
      let here = in_left e (lane ss j).outbox.events (yet p (line (plan_lines p) j).events (lane ss j).strand) waits in
      refute ((own_of j within).process e here) (taken_due c m (lane ss j).outbox.events e i)
      (from e (in_lefts p (plan_lines p) ss j e (omega arith) within here))
    where
      refute : e.process ≡ j → IsDue c m e → IsNotPast c m e.time e.process → ⊥
      refute is (inl less) (inl more) = omega arith
      refute is (inl less) (inr at) = let time = at.0 in omega arith
      refute is (inr due) (inl more) = let time = due.0 in omega arith
      refute is (inr due) (inr at) = let low = due.1 in let high = at.1 in apart (omega arith)

  pub own_due : OwnDue (c, m) ss
  own_due = record {
    there = there;
    others = λ j within apart. empty_list (due (Some (c, m)) (lane ss j)) (none_beside j within apart);
  }

  -- what waits after it was taken is past the tick
  pub waits_past : (e : TimedMessage) → In e (without_due (Some (c, m)) (lane ss m)).outbox.events → c < e.time
  waits_past e i =
      let all = own_of m there in
      let front = own_front m (lane ss m).outbox.events (yet p (line (plan_lines p) m).events (lane ss m).strand) all in
      let stays = count_through (Some (c, m)) (lane ss m).outbox.events in
      let was : In e (lane ss m).outbox.events =
      subst (In e) (take-append-drop stays (lane ss m).outbox.events)
      (in_right e (take stays (lane ss m).outbox.events) (drop stays (lane ss m).outbox.events) i) in
      by_pair (front.process e was) (stays_behind c m (lane ss m).outbox.events e front.rises i)
    where
      by_pair : e.process ≡ m → IsNotPast c (m + 1) e.time e.process → c < e.time
      by_pair is (inl less) = less
      by_pair is (inr at) = let from = at.1 in absurd (omega arith)
