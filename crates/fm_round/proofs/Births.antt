-- Who has not started waits for a process that is live, earlier and not past its start.
use Rattle.std.proofs.Common.{◌≡◌, ℕ, zero, suc, ◌<◌, ◌≤◌, List, [], ◌∷◌, length, get_or, Bool, true, false, Option, Some, None, refl, ap, subst, arith}
use Rattle.std.specs.Prelude.{map}
use Rattle.fm_line.specs.declared.line.Line.{Line}
use Rattle.fm_line.specs.Line.{greatest, line, event_at, start, ValidLines}
use Rattle.fm_program.specs.Parts.{PlanParts}
use Rattle.fm_program.specs.Process.{plan_lines}
use Rattle.fm_program.proofs.Lines.{plan-lines-waits}
use Rattle.fm_strand.specs.declared.strand.Strand.{Strand}
use Rattle.fm_strand.specs.Strand.{clock_of}
use Rattle.fm_round.specs.Lanes.{AllLanes, AllStarted, IsRun, live_clock, predecessors, lane}
use Rattle.fm_round.specs.declared.lane.Lane.{Lane}
use Rattle.fm_play.proofs.InTime.{past_last}
use Rattle.fm_round.proofs.StrandFacts.{clock_to_end}

-- ---- lines

-- each number of a list is at most the greatest
greatest_at : (f : ℕ → ℕ) (xs : List ℕ) (i : ℕ) → i < length xs → f (get_or xs i 0) ≤ greatest (map f xs)
greatest_at f [] i lt = absurd (omega arith)
greatest_at f (x ∷ xs) zero lt = omega arith
greatest_at f (x ∷ xs) (suc i) lt = let more = greatest_at f xs i (omega arith) in omega arith

-- a line starts no earlier than each of its predecessors ends
start_after : (ls : List Line) (j i : ℕ) → i < length (line ls j).predecessors
    → (line ls (get_or (line ls j).predecessors i 0)).end ≤ start ls j
start_after ls j i within = greatest_at (λ q. (line ls q).end) (line ls j).predecessors i within

-- and no later than it ends itself
start_to_end : (ls : List Line) → ValidLines ls → (j : ℕ) → start ls j ≤ (line ls j).end
start_to_end ls valid j =
    omega (
      arith,
      valid.begun j (length (line ls j).events),
      ap (λ e. e.time) (past_last (line ls j).events (event_at (line ls j).end)),
    )

-- ---- waiting

-- a live process before j, with a clock not past j's start
pub record IsAhead (p : PlanParts) (ss : List Lane) (j : ℕ) : Type 0 where
  pub at : ℕ
  pub less : at < j
  pub clock : ℕ
  pub live : live_clock p (lane ss at) ≡ Some clock
  pub early : clock ≤ start (plan_lines p) j

module _ (p : PlanParts) (ss : List Lane) (valid : ValidLines (plan_lines p)) (lanes : AllLanes p ss)
    (m : ℕ) (within_all : m ≤ length ss) (started : AllStarted p ss m) where
  -- a predecessor that has not ended is ahead, or waits itself
  through : (j q : ℕ) → q < j → q < m → (line (plan_lines p) q).end ≤ start (plan_lines p) j
      → (ended : Bool) (strand : Option Strand) → (lane ss q).ended ≡ ended → (lane ss q).strand ≡ strand → ended ≡ false
      → IsRun p q ended (lane ss q).outbox.events strand → ((lane ss q).strand ≡ None → IsAhead p ss q) → IsAhead p ss j
  through j q less there before true strand is_ended is_strand live run further = absurd (cc)
  through j q less there before false None is_ended is_strand live run further =
      let above = further is_strand in
      let to_end = start_to_end (plan_lines p) valid q in
      let earlier = above.less in
      let early = above.early in
      record { at = above.at; less = omega arith; clock = above.clock; live = above.live; early = omega arith }
  through j q less there before false (Some t) is_ended is_strand live run further =
      let to_end : clock_of p t ≤ (line (plan_lines p) q).end =
      subst (λ (i : ℕ). clock_of p t ≤ (line (plan_lines p) i).end) run.process (clock_to_end p t run.course) in
      record { at = q; less = less; clock = clock_of p t; live = rw (is_ended, is_strand) refl; early = omega arith }

  ahead_in : (n j : ℕ) → j < n → j < m → (lane ss j).strand ≡ None → IsAhead p ss j
  ahead_in zero j lt there unborn = absurd (omega arith)
  ahead_in (suc n) j lt there unborn =
      let waiting = started j there unborn in
      let within : waiting.at < length (line (plan_lines p) j).predecessors = rw (plan-lines-waits p j) waiting.there in
      let same : get_or (line (plan_lines p) j).predecessors waiting.at 0 ≡ get_or (predecessors p j) waiting.at 0 =
      ap (λ (qs : List ℕ). get_or qs waiting.at 0) (plan-lines-waits p j) in
      let less : get_or (predecessors p j) waiting.at 0 < j = subst (λ (q : ℕ). q < j) same (valid.below j waiting.at 0 within) in
      let before : (line (plan_lines p) (get_or (predecessors p j) waiting.at 0)).end ≤ start (plan_lines p) j =
      subst (λ (q : ℕ). (line (plan_lines p) q).end ≤ start (plan_lines p) j) same
      (start_after (plan_lines p) j waiting.at within) in
      let q : ℕ = get_or (predecessors p j) waiting.at 0 in
      through j (get_or (predecessors p j) waiting.at 0) less (omega arith) before
      (lane ss (get_or (predecessors p j) waiting.at 0)).ended (lane ss (get_or (predecessors p j) waiting.at 0)).strand refl refl
      waiting.live (lanes (get_or (predecessors p j) waiting.at 0) (omega arith))
      (λ none. ahead_in n (get_or (predecessors p j) waiting.at 0) (omega arith) (omega arith) none)

  -- some live process is before j, with a clock not past j's start
  pub ahead : (j : ℕ) → j < m → (lane ss j).strand ≡ None → IsAhead p ss j
  ahead j there unborn = ahead_in (suc j) j (omega arith) there unborn

-- each predecessor is an earlier process
pub predecessor_below : (p : PlanParts) → ValidLines (plan_lines p) → (j i : ℕ) → i < length (predecessors p j)
    → get_or (predecessors p j) i 0 < j
predecessor_below p valid j i within =
    let inside : i < length (line (plan_lines p) j).predecessors = rw (plan-lines-waits p j) within in
    subst (λ (q : ℕ). q < j) (ap (λ (qs : List ℕ). get_or qs i 0) (plan-lines-waits p j)) (valid.below j i 0 inside)
