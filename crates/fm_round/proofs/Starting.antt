-- What it changes to start a process.
use Rattle.std.proofs.Common.{◌≡◌, ◌⊎◌, ℕ, suc, ◌+◌, ◌<◌, ◌≤◌, List, [], ◌∷◌, ◌++◌, length, map, get_or, set, Bool, false, Option, Some, None, refl, sym, ap, ap₂, ◌∙◌, subst, inl, inr, arith, get_or-set_same, get_or-set_other}
use Rattle.std.proofs.lemmas.Bool.{cases_eq}
use Rattle.std.proofs.lemmas.List.Elements.{All-nil}
use Rattle.std.proofs.Math.ListN.{length-set}
use Rattle.fm_msg.specs.Event.{TimedMessage}
use Rattle.fm_line.specs.declared.line.Line.{Line}
use Rattle.fm_line.specs.Line.{line}
use Rattle.fm_program.specs.Parts.{PlanParts}
use Rattle.fm_program.specs.Process.{plan_lines}
use Rattle.fm_strand.specs.declared.strand.Strand.{Strand}
use Rattle.fm_strand.specs.Course.{steps_of}
use Rattle.fm_strand.specs.Strand.{InCourse, clock_of, rest, steps_left}
use Rattle.std.specs.Prelude.{is_some}
use Rattle.fm_round.specs.Starts.{Begins}
use Rattle.fm_round.specs.declared.lane.Lane.{Lane}
use Rattle.fm_round.specs.Lanes.{AllLanes, IsRun, IsLaneOf, left, lefts, load, loads, no_lane, predecessors, room_of, run_load, lane, yet}
use Rattle.fm_program.specs.Fit.{PartsFit}
use Rattle.fm_round.proofs.Births.{predecessor_below}
use Rattle.fm_round.proofs.Running.{any_default, rooms_same}
use Rattle.fm_play.proofs.PlanFacts.{plan_valid}

-- ---- lane by lane

-- equal at each index, for the line that is there
lefts_each : (p : PlanParts) (ls : List Line) (old new : List Lane) → length new ≡ length old
    → ((k : ℕ) → k < length old → left p (line ls k).events (lane new k) ≡ left p (line ls k).events (lane old k))
    → lefts p ls new ≡ lefts p ls old
lefts_each p [] old new same each = refl
lefts_each p (l ∷ ls) [] [] same each = refl
lefts_each p (l ∷ ls) [] (t ∷ new) same each = absurd (omega arith)
lefts_each p (l ∷ ls) (s ∷ old) [] same each = absurd (omega arith)
lefts_each p (l ∷ ls) (s ∷ old) (t ∷ new) same each =
    ap₂ (λ (xs : List TimedMessage) (xss : List (List TimedMessage)). xs ∷ xss) (each 0 (omega arith))
    (lefts_each p ls old new (omega arith) (λ k within. each (suc k) (omega arith)))

loads_same : (p : PlanParts) (first : ℕ) (old new : List Lane) → length new ≡ length old
    → ((k : ℕ) → k < length old → load p (first + k) (lane new k) ≡ load p (first + k) (lane old k))
    → loads p first new ≡ loads p first old
loads_same p first [] [] same each = refl
loads_same p first [] (t ∷ new) same each = absurd (omega arith)
loads_same p first (s ∷ old) [] same each = absurd (omega arith)
loads_same p first (s ∷ old) (t ∷ new) same each =
    ap₂ (λ (a b : ℕ). a + b) (subst (λ (n : ℕ). load p n t ≡ load p n s) at (each 0 (omega arith)))
    (loads_same p (suc first) old new (omega arith) (λ k within.
    subst (λ (n : ℕ). load p n (lane new k) ≡ load p n (lane old k)) (next k) (each (suc k) (omega arith))))
  where
    at : first + 0 ≡ first
    at = omega arith

    next : (k : ℕ) → first + suc k ≡ suc first + k
    next k = omega arith

-- ---- one process is started

module _ (p : PlanParts) (ss : List Lane) (j : ℕ) (there : j < length ss) (t : Strand) (y : Lane)
    (lanes : AllLanes p ss) (unborn : (lane ss j).strand ≡ None)
    (course : InCourse p t) (process : t.process ≡ j) (whole : rest p t ≡ (line (plan_lines p) j).events)
    (steps : steps_left p t ≡ steps_of p j)
    (strand : y.strand ≡ Some t) (ended : y.ended ≡ (lane ss j).ended) (outbox : y.outbox ≡ (lane ss j).outbox) where
  here : lane (set ss j y) j ≡ y
  here = get_or-set_same ss j y no_lane there

  other : (i : ℕ) → (i ≡ j → ⊥) → lane (set ss j y) i ≡ lane ss i
  other i apart = get_or-set_other ss j i y no_lane apart

  -- nothing was computed
  idle : ((lane ss j).outbox.events ≡ []) × ((lane ss j).ended ≡ false)
  idle = subst (IsRun p j (lane ss j).ended (lane ss j).outbox.events) unborn (lanes j there)

  is_lane : IsLaneOf p j y
  is_lane =
      let events : y.outbox.events ≡ [] = ap (λ o. o.events) outbox ∙ idle.0 in
      let live : y.ended ≡ false = ended ∙ idle.1 in
      rw (strand, events, live) (record {
        course = course;
        process = process;
        early = All-nil (λ (e : TimedMessage). e.time ≤ clock_of p t);
        at_end = λ is. cc;
      })

  pub started_lanes : AllLanes p (set ss j y)
  started_lanes i within = by_place (cases_eq i j)
    where
      inside : i < length ss
      inside = simp length-set at within

      by_place : (i ≡ j) ⊎ (i ≡ j → ⊥) → IsLaneOf p i (lane (set ss j y) i)
      by_place (inl same) =
          subst (λ (k : ℕ). IsLaneOf p k (lane (set ss j y) k)) (sym same) (subst (IsLaneOf p j) (sym here) is_lane)
      by_place (inr apart) = subst (IsLaneOf p i) (sym (other i apart)) (lanes i inside)

  left_here : left p (line (plan_lines p) j).events y ≡ left p (line (plan_lines p) j).events (lane ss j)
  left_here =
      ap₂ (λ (es fs : List TimedMessage). es ++ fs) (ap (λ o. o.events) outbox)
      (ap (yet p (line (plan_lines p) j).events) strand ∙ whole ∙ sym (ap (yet p (line (plan_lines p) j).events) unborn))

  pub started_lefts : lefts p (plan_lines p) (set ss j y) ≡ lefts p (plan_lines p) ss
  started_lefts = lefts_each p (plan_lines p) ss (set ss j y) (length-set ss j y) (λ k within. by_place k (cases_eq k j))
    where
      by_place : (k : ℕ) → (k ≡ j) ⊎ (k ≡ j → ⊥)
          → left p (line (plan_lines p) k).events (lane (set ss j y) k) ≡ left p (line (plan_lines p) k).events (lane ss k)
      by_place k (inl same) =
          subst (λ (i : ℕ). left p (line (plan_lines p) i).events (lane (set ss j y) i) ≡ left p (line (plan_lines p) i).events (lane ss i))
          (sym same) (ap (left p (line (plan_lines p) j).events) here ∙ left_here)
      by_place k (inr apart) = ap (left p (line (plan_lines p) k).events) (other k apart)

  pub started_rooms : map room_of (set ss j y) ≡ map room_of ss
  started_rooms = rooms_same ss (set ss j y) (length-set ss j y) (λ k within. by_place k (cases_eq k j))
    where
      by_place : (k : ℕ) → (k ≡ j) ⊎ (k ≡ j → ⊥) → room_of (lane (set ss j y) k) ≡ room_of (lane ss k)
      by_place k (inl same) =
          subst (λ (i : ℕ). room_of (lane (set ss j y) i) ≡ room_of (lane ss i)) (sym same)
          (ap room_of here ∙ ap (λ o. o.room) outbox)
      by_place k (inr apart) = ap room_of (other k apart)

  load_here : load p j y ≡ load p j (lane ss j)
  load_here =
      ap₂ (run_load p j) (ended ∙ idle.1) strand ∙ ap (λ n. n + 1) steps ∙ sym (ap₂ (run_load p j) idle.1 unborn)

  pub started_loads : loads p 0 (set ss j y) ≡ loads p 0 ss
  started_loads = loads_same p 0 ss (set ss j y) (length-set ss j y) (λ k within. by_place k (cases_eq k j))
    where
      zero_add : 0 + j ≡ j
      zero_add = omega arith

      by_place : (k : ℕ) → (k ≡ j) ⊎ (k ≡ j → ⊥) → load p (0 + k) (lane (set ss j y) k) ≡ load p (0 + k) (lane ss k)
      by_place k (inl same) =
          subst (λ (i : ℕ). load p (0 + i) (lane (set ss j y) i) ≡ load p (0 + i) (lane ss i)) (sym same)
          (ap (load p (0 + j)) here ∙ subst (λ (i : ℕ). load p i y ≡ load p i (lane ss j)) (sym zero_add) load_here)
      by_place k (inr apart) = ap (load p (0 + k)) (other k apart)

  -- no process has ended by that
  ended_kept : (i : ℕ) → (lane (set ss j y) i).ended ≡ (lane ss i).ended
  ended_kept i = by_place (cases_eq i j)
    where
      by_place : (i ≡ j) ⊎ (i ≡ j → ⊥) → (lane (set ss j y) i).ended ≡ (lane ss i).ended
      by_place (inl same) =
          subst (λ (k : ℕ). (lane (set ss j y) k).ended ≡ (lane ss k).ended) (sym same) (ap (λ (s : Lane). s.ended) here ∙ ended)
      by_place (inr apart) = ap (λ (s : Lane). s.ended) (other i apart)

  -- the process has begun, and no other is changed
  pub begins_one : Begins p j ss (set ss j y)
  begins_one = record {
    some = record {
      lanes = started_lanes;
      ended = ended_kept;
      same = started_lefts;
      rooms = started_rooms;
      loads = started_loads;
    };
    others = other;
  }

-- what is not there
pub no_strand : (t : Option Strand) → is_some t ≡ false → t ≡ None
no_strand None is = refl
no_strand (Some t) is = cc

-- ---- predecessors

-- the lane of a predecessor is there
pub predecessor_there : (p : PlanParts) (ss : List Lane) (qs : List ℕ) (j i : ℕ) → PartsFit p → length ss ≡ length p.programs
    → j < length p.programs → qs ≡ predecessors p j → i < length qs → get_or qs i 0 < length ss
predecessor_there p ss qs j i fits count process are within =
    let inside : i < length (predecessors p j) = rw (← are) within in
    let below = predecessor_below p (plan_valid p fits) j i inside in rw are (omega arith)

-- whether it has ended
pub ended_at : (p : PlanParts) (ss : List Lane) (qs : List ℕ) (j i : ℕ) (d : Lane) (b : Bool) → get_or qs i 0 < length ss
    → qs ≡ predecessors p j → (get_or ss (get_or qs i 0) d).ended ≡ b → (lane ss (get_or (predecessors p j) i 0)).ended ≡ b
ended_at p ss qs j i d b there are is =
    sym (ap (λ (xs : List ℕ). (lane ss (get_or xs i 0)).ended) are)
    ∙ ap (λ (s : Lane). s.ended) (any_default ss (get_or qs i 0) no_lane d there) ∙ is
