-- What is known of strands, in the form in which rounds need it.
use Rattle.std.proofs.Common.{◌≡◌, ◌≤◌, ℕ, List, [], ◌∷◌, Some, subst, arith}
use Rattle.std.specs.List.{All}
use Rattle.fm_msg.specs.Event.{TimedMessage}
use Rattle.fm_buffer.specs.Outbox.{EventQueue}
use Rattle.fm_line.specs.Line.{line}
use Rattle.fm_program.specs.Parts.{PlanParts}
use Rattle.fm_program.specs.Process.{plan_lines}
use Rattle.fm_strand.specs.declared.strand.Strand.{Strand}
use Rattle.fm_strand.specs.declared.answers.Quantum.{Quantum}
use Rattle.fm_strand.specs.Course.{end_place}
use Rattle.fm_strand.specs.Strand.{InCourse, MakesQuantum, clock_of, next_event, place_reached, rest, steps_left}
use Rattle.fm_strand.proofs.ReadLemmas.{event-clock}
use Rattle.fm_strand.proofs.WholeLemmas.{at-end, end-late, rest-late}

-- a clock does not pass the line's end
pub clock_to_end : (p : PlanParts) (s : Strand) → InCourse p s → clock_of p s ≤ (line (plan_lines p) s.process).end
clock_to_end p s course = end-late p s course

-- nor the first event to come
pub clock_first : (p : PlanParts) (s : Strand) (e : TimedMessage) (es : List TimedMessage) → InCourse p s → rest p s ≡ e ∷ es
    → clock_of p s ≤ e.time
clock_first p s e es course is =
    let all : All (λ (x : TimedMessage). clock_of p s ≤ x.time) (e ∷ es) =
    subst (All (λ (x : TimedMessage). clock_of p s ≤ x.time)) is (rest-late p s course) in
    all 0 e (omega arith)

-- where the next step gives an event, the clock is its time
pub clock_at_event : (p : PlanParts) (s : Strand) (e : TimedMessage) → InCourse p s → next_event p s ≡ Some e → clock_of p s ≡ e.time
clock_at_event p s e course is = event-clock p s e course is

-- without a step left nothing is to come
pub rest_ended : (p : PlanParts) (s : Strand) → InCourse p s → steps_left p s ≡ 0 → rest p s ≡ []
rest_ended p s course none = (at-end p s course none).0

-- the clock is the line's end
pub clock_ended : (p : PlanParts) (s : Strand) → InCourse p s → steps_left p s ≡ 0
    → clock_of p s ≡ (line (plan_lines p) s.process).end
clock_ended p s course none = (at-end p s course none).1

-- and the place is the process's last one
pub place_ended : (p : PlanParts) (s : Strand) → InCourse p s → steps_left p s ≡ 0 → place_reached p s ≡ end_place p s.process
place_ended p s course none = (at-end p s course none).2

-- no event that a quantum puts is later than the clock after it
pub put_early : (p : PlanParts) (limit : ℕ) (old : Strand) (box : EventQueue) (answer : Quantum) (new : Strand) (box' : EventQueue)
    → (makes : MakesQuantum p limit old box answer new box') → All (λ (e : TimedMessage). e.time ≤ clock_of p new) makes.put
put_early p limit old box answer new box' makes = makes.before
