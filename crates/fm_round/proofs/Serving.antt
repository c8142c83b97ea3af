-- What serving a process at a tick leaves.
use Rattle.std.proofs.Common.{◌≡◌, ◌⊎◌, ℕ, ◌+◌, ◌<◌, ◌≤◌, List, [], ◌∷◌, length, map, set, Bool, true, false, Option, Some, None, refl, sym, ap, ap₂, ◌∙◌, subst, inl, inr, arith, get_or-set_same, get_or-set_other, length-set}
use Rattle.std.specs.Prelude.{nat_lt, not}
use Rattle.std.proofs.lemmas.Bool.{cases_eq, ltb-false, ltb-true}
use Rattle.std.specs.List.{All}
use Rattle.fm_msg.specs.Event.{TimedMessage}
use Rattle.fm_line.specs.declared.line.Line.{Line}
use Rattle.fm_line.specs.Piece.{In}
use Rattle.fm_program.specs.Parts.{PlanParts}
use Rattle.fm_program.specs.Process.{plan_lines}
use Rattle.fm_strand.specs.declared.strand.Strand.{Strand}
use Rattle.fm_strand.specs.Strand.{clock_of}
use Rattle.fm_round.specs.Lanes.{AllLanes, CanRun, IsLaneOf, IsRun, Runs, lane, left, lefts, live_clock, load, loads, no_lane, room_of, run_clock, without_due}
use Rattle.fm_round.specs.Turns.{AllFrom, IsPast, OwnDue, Serves, is_past}
use Rattle.fm_round.specs.declared.lane.Lane.{Lane}
use Rattle.fm_round.proofs.Running.{lefts_same, loads-release, loads_fall, rooms_same}
use Rattle.fm_round.proofs.Watched.{ended_rests}
use Rattle.fm_round.proofs.OneDue.{taken_of_one}

-- ---- tests

pub some_room : (r n : ℕ) → r ≡ n → 1 ≤ n → 0 < r
some_room r n is some = omega arith

-- what is not refused holds
pub not_false : (b : Bool) → not b ≡ false → b ≡ true
not_false true is = refl
not_false false is = cc

-- ---- a quantum of one process

-- where the clock is not past the tick, and all that waits is, nothing waits
none_waits : (xs : List TimedMessage) (k c : ℕ) → All (λ e. e.time ≤ k) xs → ((e : TimedMessage) → In e xs → c < e.time) → k ≤ c
    → xs ≡ []
none_waits [] k c early late up = refl
none_waits (x ∷ xs) k c early late up = let a = early 0 x (omega arith) in let b = late x (inl refl) in absurd (omega arith)

-- so it can run
pub can_run_on : (p : PlanParts) (tick j : ℕ) (s : Lane) → IsLaneOf p j s → ((e : TimedMessage) → In e s.outbox.events → tick < e.time)
    → is_past tick (live_clock p s) ≡ false → 0 < s.outbox.room → CanRun p tick s
can_run_on p tick j s fits late behind room = by_state s.ended s.strand refl refl fits
  where
    by_clock : (t : Strand) → (live : live_clock p s ≡ Some (clock_of p t)) → All (λ e. e.time ≤ clock_of p t) s.outbox.events
        → CanRun p tick s
    by_clock t live early =
        let test : nat_lt tick (clock_of p t) ≡ false = sym (ap (is_past tick) live) ∙ behind in
        let near : clock_of p t ≤ tick = ltb-false tick (clock_of p t) test in
        record {
          clock = clock_of p t;
          live = live;
          in_time = near;
          room = let none = ap length (none_waits s.outbox.events (clock_of p t) tick early late near) in omega arith;
        }

    by_state : (ended : Bool) (strand : Option Strand) → s.ended ≡ ended → s.strand ≡ strand
        → IsRun p j ended s.outbox.events strand → CanRun p tick s
    by_state true t is_ended is_strand run =
        let never : true ≡ false = sym (ap (λ b. is_past tick (run_clock p b s.strand)) is_ended) ∙ behind in cc
    by_state false None is_ended is_strand run =
        let never : true ≡ false =
        sym (ap₂ (λ (b : Bool) (t : Option Strand). is_past tick (run_clock p b t)) is_ended is_strand) ∙ behind in cc
    by_state false (Some t) is_ended is_strand run =
        by_clock t (ap₂ (λ (b : Bool) (u : Option Strand). run_clock p b u) is_ended is_strand) run.early

-- who is past the tick is so
pub clock_past : (p : PlanParts) (tick : ℕ) (s : Lane) → is_past tick (live_clock p s) ≡ true → (t : ℕ) → live_clock p s ≡ Some t
    → tick < t
clock_past p tick s past t live = ltb-true tick t (sym (ap (is_past tick) live) ∙ past)

module _ (p : PlanParts) (tick j : ℕ) (ss : List Lane) (y : Lane) (there : j < length ss) (runs : Runs p j tick (lane ss j) y) where
  here : lane (set ss j y) j ≡ y
  here = get_or-set_same ss j y no_lane there

  other : (i : ℕ) → (i ≡ j → ⊥) → lane (set ss j y) i ≡ lane ss i
  other i apart = get_or-set_other ss j i y no_lane apart

  -- nothing is lost
  pub ran_lefts : (ls : List Line) → lefts p ls (set ss j y) ≡ lefts p ls ss
  ran_lefts ls = lefts_same p ls ss (set ss j y) (length-set ss j y) (λ k within events. by_place k events (cases_eq k j))
    where
      by_place : (k : ℕ) (events : List TimedMessage) → (k ≡ j) ⊎ (k ≡ j → ⊥)
          → left p events (lane (set ss j y) k) ≡ left p events (lane ss k)
      by_place k events (inl same) =
          subst (λ (i : ℕ). left p events (lane (set ss j y) i) ≡ left p events (lane ss i)) (sym same)
          (ap (left p events) here ∙ runs.same events)
      by_place k events (inr apart) = ap (left p events) (other k apart)

  pub ran_rooms : map room_of (set ss j y) ≡ map room_of ss
  ran_rooms = rooms_same ss (set ss j y) (length-set ss j y) (λ k within. by_place k (cases_eq k j))
    where
      by_place : (k : ℕ) → (k ≡ j) ⊎ (k ≡ j → ⊥) → room_of (lane (set ss j y) k) ≡ room_of (lane ss k)
      by_place k (inl same) =
          subst (λ (i : ℕ). room_of (lane (set ss j y) i) ≡ room_of (lane ss i)) (sym same) (ap room_of here ∙ runs.room)
      by_place k (inr apart) = ap room_of (other k apart)

  pub ran_lanes : AllLanes p ss → AllLanes p (set ss j y)
  ran_lanes lanes i within = by_place (cases_eq i j)
    where
      inside : i < length ss
      inside = simp length-set at within

      by_place : (i ≡ j) ⊎ (i ≡ j → ⊥) → IsLaneOf p i (lane (set ss j y) i)
      by_place (inl same) =
          subst (λ (k : ℕ). IsLaneOf p k (lane (set ss j y) k)) (sym same) (subst (IsLaneOf p j) (sym here) runs.fits)
      by_place (inr apart) = subst (IsLaneOf p i) (sym (other i apart)) (lanes i inside)

  -- there is less to do, if it could run
  pub ran_falls : CanRun p tick (lane ss j) → loads p 0 (set ss j y) < loads p 0 ss
  ran_falls can =
      loads_fall p 0 ss (set ss j y) j (length-set ss j y) there (λ k within. by_place k (cases_eq k j))
      (subst (λ (n : ℕ). load p n (lane (set ss j y) j) < load p n (lane ss j)) (sym zero_add)
      (subst (λ (s : Lane). load p j s < load p j (lane ss j)) (sym here) (runs.moves can)))
    where
      zero_add : 0 + j ≡ j
      zero_add = omega arith

      by_place : (k : ℕ) → (k ≡ j) ⊎ (k ≡ j → ⊥) → load p (0 + k) (lane (set ss j y) k) ≤ load p (0 + k) (lane ss k)
      by_place k (inl same) =
          subst (λ (i : ℕ). load p (0 + i) (lane (set ss j y) i) ≤ load p (0 + i) (lane ss i)) (sym same)
          (subst (λ (n : ℕ). load p n (lane (set ss j y) j) ≤ load p n (lane ss j)) (sym zero_add)
          (subst (λ (s : Lane). load p j s ≤ load p j (lane ss j)) (sym here) runs.less))
      by_place k (inr apart) = let same = ap (load p (0 + k)) (other k apart) in omega arith

-- ---- serving a process

pub serves_none : (p : PlanParts) (tick j : ℕ) (ss : List Lane) → Serves p tick j false ss ss
serves_none p tick j ss = record {
  size = refl;
  others = λ i apart. refl;
  ended = λ is. is;
  begun = λ is. is;
  less = omega arith;
  from = λ is. cc;
  past = λ is. cc;
}

-- the process was changed once more
serves_set : (p : PlanParts) (tick j : ℕ) (old ss : List Lane) (y : Lane) → Serves p tick j false old ss → j < length ss
    → ((lane ss j).ended ≡ true → y.ended ≡ true) → (y.strand ≡ None → (lane ss j).strand ≡ None)
    → loads p 0 (set ss j y) ≤ loads p 0 ss → Serves p tick j false old (set ss j y)
serves_set p tick j old ss y before there ended begun less = record {
  size = length-set ss j y ∙ before.size;
  others = λ i apart. get_or-set_other ss j i y no_lane apart ∙ before.others i apart;
  ended = λ is. ap (λ (s : Lane). s.ended) here ∙ ended (before.ended is);
  begun = λ is. before.begun (begun (sym (ap (λ (s : Lane). s.strand) here) ∙ is));
  less = let was = before.less in omega arith;
  from = λ is. cc;
  past = λ is. cc;
}
  where
    here : lane (set ss j y) j ≡ y
    here = get_or-set_same ss j y no_lane there

-- what was due of it is taken
pub serves_released : (p : PlanParts) (tick j : ℕ) (old ss new : List Lane) → Serves p tick j false old ss → OwnDue (tick, j) ss
    → new ≡ map (without_due (Some (tick, j))) ss → Serves p tick j false old new
serves_released p tick j old ss new before own took =
    subst (Serves p tick j false old) (taken_of_one (tick, j) ss own ∙ sym took)
    (serves_set p tick j old ss (without_due (Some (tick, j)) (lane ss j)) before own.there (λ is. is) (λ is. is)
    (let same = ap (loads p 0) (taken_of_one (tick, j) ss own) ∙ loads-release p 0 (Some (tick, j)) ss in omega arith))

-- it has run
pub serves_ran : (p : PlanParts) (tick j : ℕ) (old ss : List Lane) (y : Lane) → Serves p tick j false old ss → j < length ss
    → Runs p j tick (lane ss j) y → CanRun p tick (lane ss j) → Serves p tick j false old (set ss j y)
serves_ran p tick j old ss y before there runs can =
    serves_set p tick j old ss y before there
    (λ is. ap (λ (s : Lane). s.ended) (runs.idle (ended_rests (lane ss j) is)) ∙ is) runs.begun
    (let less = ran_falls p tick j ss y there runs can in omega arith)

-- nothing of the tick is left of it
pub serves_all : (p : PlanParts) (tick j : ℕ) (old ss : List Lane) → Serves p tick j false old ss
    → AllFrom tick j (lefts p (plan_lines p) ss) → IsPast p tick (lane ss j) → Serves p tick j true old ss
serves_all p tick j old ss before from past = record {
  size = before.size;
  others = before.others;
  ended = before.ended;
  begun = before.begun;
  less = before.less;
  from = λ is. from;
  past = λ is. past;
}
