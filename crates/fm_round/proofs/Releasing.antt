-- What a release takes out of the outboxes is the next part of the piece.
use Rattle.std.proofs.Common.{◌≡◌, ℕ, zero, suc, ◌+◌, ◌<◌, ◌≤◌, List, [], ◌∷◌, ◌++◌, length, map, take, drop, Bool, true, false, Option, Some, None, refl, sym, ap, ap₂, ◌∙◌, subst, inl, inr, ⊎_elim, arith, append_assoc}
use Rattle.std.proofs.lemmas.List.{take-append-drop}
use Rattle.fm_msg.specs.Event.{TimedMessage}
use Rattle.fm_line.specs.declared.line.Line.{Line}
use Rattle.fm_line.specs.Line.{line, event_at, start, ValidLines}
use Rattle.fm_line.specs.Piece.{In, Rises, sorted}
use Rattle.fm_line.proofs.Members.{in_at, in_either}
use Rattle.fm_line.proofs.Rising.{above_in}
use Rattle.fm_buffer.specs.Outbox.{count_through}
use Rattle.fm_program.specs.Parts.{PlanParts}
use Rattle.fm_program.specs.Process.{plan_lines}
use Rattle.fm_strand.specs.declared.strand.Strand.{Strand}
use Rattle.fm_strand.specs.Strand.{InCourse, clock_of, rest}
use Rattle.fm_round.specs.declared.lane.Lane.{Lane}
use Rattle.fm_round.specs.Lefts.{IsOwn, OwnFrom, joined}
use Rattle.fm_round.specs.Halfway.{Playing}
use Rattle.fm_round.specs.Lanes.{AllLanes, AllStarted, IsLeast, IsNotPast, IsRun, due, left, lefts, lane, live_clock, without_due, yet}
use Rattle.fm_round.specs.Turns.{AllFrom}
use Rattle.fm_play.proofs.InTime.{before_time}
use Rattle.fm_round.proofs.Parting.{Parted, FrontsFirst, back_of, front_of, own_back, own_backs, own_front, sorted_parts, whole_of}
use Rattle.fm_round.proofs.Order.{IsDue, due_first, past_time, stays_past, taken_due}
use Rattle.fm_round.proofs.Births.{ahead}
use Rattle.fm_round.proofs.StrandFacts.{clock_first, rest_ended}

-- ---- what is left, in two parts

-- what stays of a process once what is due up to the key is taken
abbrev pub stay : PlanParts → Option (ℕ × ℕ) → List TimedMessage → Lane → List TimedMessage
stay p key events s = drop (count_through key s.outbox.events) s.outbox.events ++ yet p events s.strand

-- what is left of each process: what is due up to the key, and what stays
abbrev pub parts : PlanParts → Option (ℕ × ℕ) → List Line → List Lane → List Parted
parts p key [] ss = []
parts p key (l ∷ ls) [] = []
parts p key (l ∷ ls) (s ∷ ss) = record { front = due key s; back = stay p key l.events s } ∷ parts p key ls ss

-- both together are what was left
pub parts-whole : (p : PlanParts) (key : Option (ℕ × ℕ)) (ls : List Line) (ss : List Lane)
    → map whole_of (parts p key ls ss) ≡ lefts p ls ss
parts-whole p key [] ss = refl
parts-whole p key (l ∷ ls) [] = refl
parts-whole p key (l ∷ ls) (s ∷ ss) =
    let n = count_through key s.outbox.events in
    let here : due key s ++ stay p key l.events s ≡ left p l.events s =
    sym (append_assoc (take n s.outbox.events) (drop n s.outbox.events) (yet p l.events s.strand))
    ∙ ap (λ es. es ++ yet p l.events s.strand) (take-append-drop n s.outbox.events) in
    ap₂ (λ (xs : List TimedMessage) (xss : List (List TimedMessage)). xs ∷ xss) here (parts-whole p key ls ss)

-- what stays is what is left of the lanes without what is due
pub parts-back : (p : PlanParts) (key : Option (ℕ × ℕ)) (ls : List Line) (ss : List Lane)
    → map back_of (parts p key ls ss) ≡ lefts p ls (map (without_due key) ss)
parts-back p key [] ss = refl
parts-back p key (l ∷ ls) [] = refl
parts-back p key (l ∷ ls) (s ∷ ss) = ap (λ xss. stay p key l.events s ∷ xss) (parts-back p key ls ss)

-- what is due is what is taken, where there is a line for each lane
pub parts-front : (p : PlanParts) (key : Option (ℕ × ℕ)) (ls : List Line) (ss : List Lane) → length ss ≡ length ls
    → map front_of (parts p key ls ss) ≡ map (due key) ss
parts-front p key [] [] same = refl
parts-front p key [] (s ∷ ss) same = absurd (omega arith)
parts-front p key (l ∷ ls) [] same = refl
parts-front p key (l ∷ ls) (s ∷ ss) same = ap (λ xss. due key s ∷ xss) (parts-front p key ls ss (omega arith))

-- ---- the piece goes on

-- where what is due is first, what is taken is the next part of the piece
pub released : (p : PlanParts) (key : Option (ℕ × ℕ)) (ls : List Line) (ss : List Lane) (done : List TimedMessage)
    → length ss ≡ length ls → Playing ls done (lefts p ls ss) → FrontsFirst (parts p key ls ss)
    → Playing ls (done ++ sorted (joined (map (due key) ss))) (lefts p ls (map (without_due key) ss))
released p key ls ss done same playing first =
    let own : OwnFrom 0 (map whole_of (parts p key ls ss)) = rw parts-whole playing.own in
    let order = sorted_parts 0 (parts p key ls ss) own first in
    let fronts = parts-front p key ls ss same in
    let backs = parts-back p key ls ss in
    let taken : sorted (joined (map (due key) ss)) ++ sorted (joined (lefts p ls (map (without_due key) ss)))
    ≡ sorted (joined (lefts p ls ss)) =
    ap₂ (λ (xss yss : List (List TimedMessage)). sorted (joined xss) ++ sorted (joined yss)) (sym fronts) (sym backs)
    ∙ order ∙ ap (λ xss. sorted (joined xss)) (parts-whole p key ls ss) in
    record {
      whole =
          append_assoc done (sorted (joined (map (due key) ss))) (sorted (joined (lefts p ls (map (without_due key) ss))))
          ∙ ap (λ es. done ++ es) taken ∙ playing.whole;
      own = subst (OwnFrom 0) backs (own_backs 0 (parts p key ls ss) own);
    }

-- ---- one process

-- what is left of each process is its own
pub own_at : (p : PlanParts) (k : ℕ) (ls : List Line) (ss : List Lane) (i : ℕ) → OwnFrom k (lefts p ls ss)
    → i < length ls → i < length ss → IsOwn (k + i) (left p (line ls i).events (lane ss i))
own_at p k [] ss i own a b = absurd (omega arith)
own_at p k (l ∷ ls) [] i own a b = absurd (omega arith)
own_at p k (l ∷ ls) (s ∷ ss) zero own a b =
    let here : k + 0 ≡ k = omega arith in subst (λ (n : ℕ). IsOwn n (left p l.events s)) (sym here) own.0
own_at p k (l ∷ ls) (s ∷ ss) (suc i) own a b =
    let here : suc k + i ≡ k + suc i = omega arith in
    subst (λ (n : ℕ). IsOwn n (left p (line ls i).events (lane ss i))) here (own_at p (suc k) ls ss i own.1 (omega arith) (omega arith))

-- no event that a strand still gives lies before its clock
pub clock_below : (p : PlanParts) (t : Strand) (e : TimedMessage) → InCourse p t → Rises (rest p t) → In e (rest p t)
    → clock_of p t ≤ e.time
clock_below p t e course rises i = from (rest p t) refl rises i
  where
    from : (xs : List TimedMessage) → rest p t ≡ xs → Rises xs → In e xs → clock_of p t ≤ e.time
    from [] is r j = absurd j
    from (x ∷ xs) is r (inl same) =
        let first = clock_first p t x xs course is in subst (λ (y : TimedMessage). clock_of p t ≤ y.time) (sym same) first
    from (x ∷ xs) is r (inr j) =
        let first = clock_first p t x xs course is in
        let later = before_time x e (above_in x e xs r.0 j) in omega arith

-- no event of a valid line lies before its start
pub start_below : (ls : List Line) → ValidLines ls → (j : ℕ) (e : TimedMessage) → In e (line ls j).events
    → start ls j ≤ e.time
start_below ls valid j e i =
    let stands = in_at e (event_at (line ls j).end) (line ls j).events i in
    subst (λ (x : TimedMessage). start ls j ≤ x.time) (sym stands.is) (valid.begun j stands.index)

-- a later process at the same time is not before the pair either
past_process : (c m t i j : ℕ) → IsNotPast c m t i → i ≤ j → IsNotPast c m t j
past_process c m t i j (inl above) later = inl above
past_process c m t i j (inr at) later = let from = at.1 in inr (at.0, omega arith)

module _ (p : PlanParts) (ss : List Lane) (valid : ValidLines (plan_lines p)) (count : length ss ≡ length (plan_lines p))
    (lanes : AllLanes p ss) (n : ℕ) (within_all : n ≤ length ss) (started : AllStarted p ss n)
    (own : OwnFrom 0 (lefts p (plan_lines p) ss)) (c m : ℕ)
    (least : (j t : ℕ) → j < n → live_clock p (lane ss j) ≡ Some t → IsNotPast c m t j) where
  -- what a process has still to compute is not before the pair that none of the first clocks is before
  pub yet_past : (j : ℕ) → j < n → (e : TimedMessage) → (ended : Bool) (strand : Option Strand)
      → (lane ss j).ended ≡ ended → (lane ss j).strand ≡ strand → IsRun p j ended (lane ss j).outbox.events strand
      → Rises (yet p (line (plan_lines p) j).events strand) → In e (yet p (line (plan_lines p) j).events strand)
      → IsNotPast c m e.time j
  yet_past j there e ended None is_ended is_strand run rises i =
      let before = ahead p ss valid lanes n within_all started j there is_strand in
      let less = before.less in
      let at = least before.at before.clock (omega arith) before.live in
      let start = start_below (plan_lines p) valid j e i in
      let early = before.early in
      past_process c m e.time before.at j (past_time c m before.clock e.time before.at at (omega arith)) (omega arith)
  yet_past j there e true (Some t) is_ended is_strand run rises i =
      let none : rest p t ≡ [] = rest_ended p t run.course (run.at_end refl) in absurd (subst (In e) none i)
  yet_past j there e false (Some t) is_ended is_strand run rises i =
      let at = least j (clock_of p t) there (rw (is_ended, is_strand) refl) in
      past_time c m (clock_of p t) e.time j at (clock_below p t e run.course rises i)

  -- what stays of a process is not before it
  pub stay_past : (j : ℕ) → j < n → (e : TimedMessage)
      → In e (stay p (Some (c, m)) (line (plan_lines p) j).events (lane ss j)) → IsNotPast c m e.time e.process
  stay_past j there e i =
      let s = lane ss j in
      let events = (line (plan_lines p) j).events in
      let all : IsOwn j (left p (line (plan_lines p) j).events (lane ss j)) =
      subst (λ (n : ℕ). IsOwn n (left p (line (plan_lines p) j).events (lane ss j))) zero_add
      (own_at p 0 (plan_lines p) ss j own (omega arith) (omega arith)) in
      let front = own_front j (lane ss j).outbox.events (yet p (line (plan_lines p) j).events (lane ss j).strand) all in
      let back = own_back j (lane ss j).outbox.events (yet p (line (plan_lines p) j).events (lane ss j).strand) all in
      ⊎_elim
      (λ (k : In e (drop (count_through (Some (c, m)) (lane ss j).outbox.events) (lane ss j).outbox.events)).
      stays_past c m (lane ss j).outbox.events e front.rises k)
      (λ (k : In e (yet p (line (plan_lines p) j).events (lane ss j).strand)).
      subst (IsNotPast c m e.time) (sym (back.process e k))
      (yet_past j there e (lane ss j).ended (lane ss j).strand refl refl (lanes j (omega arith)) back.rises k))
      (in_either e (drop (count_through (Some (c, m)) (lane ss j).outbox.events) (lane ss j).outbox.events)
      (yet p (line (plan_lines p) j).events (lane ss j).strand) i)
    where
      zero_add : 0 + j ≡ j
      zero_add = omega arith

-- ---- all processes

-- what is due of all processes is due
pub parts_due : (p : PlanParts) (c m : ℕ) (ls : List Line) (ss : List Lane) (e : TimedMessage)
    → In e (joined (map front_of (parts p (Some (c, m)) ls ss))) → IsDue c m e
parts_due p c m [] ss e i = absurd i
parts_due p c m (l ∷ ls) [] e i = absurd i
parts_due p c m (l ∷ ls) (s ∷ ss) e i =
    ⊎_elim (λ (j : In e (due (Some (c, m)) s)). taken_due c m s.outbox.events e j)
    (λ (j : In e (joined (map front_of (parts p (Some (c, m)) ls ss)))). parts_due p c m ls ss e j)
    (in_either e (due (Some (c, m)) s) (joined (map front_of (parts p (Some (c, m)) ls ss))) i)

-- what holds of each event that stays of each process holds of all that stays
pub parts_stay : (p : PlanParts) (key : Option (ℕ × ℕ)) (ls : List Line) (ss : List Lane) (P : TimedMessage → Type 0)
    → ((j : ℕ) → j < length ss → (e : TimedMessage) → In e (stay p key (line ls j).events (lane ss j)) → P e)
    → (e : TimedMessage) → In e (joined (map back_of (parts p key ls ss))) → P e
parts_stay p key [] ss P each e i = absurd i
parts_stay p key (l ∷ ls) [] P each e i = absurd i
parts_stay p key (l ∷ ls) (s ∷ ss) P each e i =
    ⊎_elim (λ (j : In e (stay p key l.events s)). each 0 (omega arith) e j)
    (λ (j : In e (joined (map back_of (parts p key ls ss)))).
    parts_stay p key ls ss P (λ k below. each (suc k) (omega arith)) e j)
    (in_either e (stay p key l.events s) (joined (map back_of (parts p key ls ss))) i)

-- up to the least pair what is due is taken, and all that stays is not before it
pub least_from : (p : PlanParts) (ss : List Lane) → ValidLines (plan_lines p) → length ss ≡ length (plan_lines p)
    → AllLanes p ss → AllStarted p ss (length ss) → OwnFrom 0 (lefts p (plan_lines p) ss)
    → (c m : ℕ) → IsLeast p ss (length ss) c m → AllFrom c m (map back_of (parts p (Some (c, m)) (plan_lines p) ss))
least_from p ss valid count lanes started own c m least =
    parts_stay p (Some (c, m)) (plan_lines p) ss (λ e. IsNotPast c m e.time e.process)
    (stay_past p ss valid count lanes (length ss) (omega arith) started own c m least.least)

-- where all that stays is not before the pair, what is due up to it is first
pub from_first : (p : PlanParts) (ls : List Line) (ss : List Lane) (c m : ℕ) → AllFrom c m (map back_of (parts p (Some (c, m)) ls ss))
    → FrontsFirst (parts p (Some (c, m)) ls ss)
from_first p ls ss c m from x y i j = due_first c m x y (parts_due p c m ls ss x i) (from y j)
