-- The line is what the strand gave, and its end.
use Rattle.std.proofs.Common.{◌≡◌, ℕ, ◌+◌, ◌<◌, List, ◌++◌, sym, ◌∙◌, ap, append-nil, refl, arith}
use Rattle.fm_msg.specs.Event.{TimedMessage}
use Rattle.fm_line.specs.Line.{line}
use Rattle.fm_line.specs.declared.line.Line.{Line}
use Rattle.fm_program.specs.Process.{plan_lines}
use Rattle.fm_program.proofs.Lines.{plan-lines-waits}
use Rattle.fm_strand.specs.Course.{end_place}
use Rattle.fm_strand.specs.Strand.{clock_of, place_reached, rest, steps_left}
use Rattle.fm_strand.proofs.WholeLemmas.{at-end}
use Rattle.fm_play.proofs.process.line_of.Goals as goal

line_parts : (events : List TimedMessage) (predecessors : List ℕ) (end : ℕ) (l : Line) → events ≡ l.events →
    predecessors ≡ l.predecessors → end ≡ l.end → record { events = events; predecessors = predecessors; end = end } ≡ l
line_parts events predecessors end l e p t = rw (e, p, t) refl

pub returns-in-Ended-clause-line : goal.returns-in-Ended-clause-line
returns-in-Ended-clause-line c =
    let p = c.args.plan.now in
    let j = c.args.process in
    let invariant = c.loop-event.invariant in
    let end = at-end p c.loop-event.strand invariant.course c.in-Ended.ensures.is.0 in
    let given = c.loop-event.events.items in
    let events : given ≡ (line (plan_lines p) j).events =
    sym (append-nil given) ∙ ap (λ (es : List TimedMessage). given ++ es) (sym end.0) ∙ invariant.events in
    let waits : c.new-in-Ended.result ≡ (line (plan_lines p) j).predecessors =
    c.new-in-Ended.ensures ∙ c.in_ok-predecessors-in-Ended.ensures.items_if_clones_equal (λ x y same. same)
    ∙ c.predecessors.ensures ∙ sym (plan-lines-waits p j) in
    let tick : c.clock.result ≡ (line (plan_lines p) j).end =
    c.clock.ensures p c.in-Ended.ensures.course
    ∙ ap (clock_of p) c.in-Ended.ensures.is.1
    ∙ end.1
    ∙ ap (λ (k : ℕ). (line (plan_lines p) k).end) invariant.process in
    line_parts c.new.result c.new-in-Ended.result c.clock.result (line (plan_lines p) j) (c.new.ensures ∙ events) waits tick

pub returns-in-Ended-clause-end : goal.returns-in-Ended-clause-end
returns-in-Ended-clause-end c =
    let p = c.args.plan.now in
    let invariant = c.loop-event.invariant in
    let end = at-end p c.loop-event.strand invariant.course c.in-Ended.ensures.is.0 in
    c.place.ensures p c.in-Ended.ensures.course
    ∙ ap (place_reached p) c.in-Ended.ensures.is.1
    ∙ end.2
    ∙ ap (end_place p) invariant.process

-- ---- the loop

one_fewer : (a b : ℕ) → a ≡ b + 1 → b < a
one_fewer a b is = omega (arith, is)

pub begin-strand-requires-clause-process : goal.begin-strand-requires-clause-process
begin-strand-requires-clause-process c = c.requires.process

pub begin-strand-requires-clause-place : goal.begin-strand-requires-clause-place
begin-strand-requires-clause-place c = c.requires.place

pub predecessors-requires : goal.predecessors-requires
predecessors-requires c = c.requires.process

pub loop-event-init : goal.loop-event-init
loop-event-init c = record {
  process = c.begin-strand.ensures.process;
  course = c.begin-strand.ensures.course;
  events = ap (λ (es : List TimedMessage). es ++ rest c.args.plan.now c.begin-strand.result) c.new-events.ensures.items
      ∙ c.begin-strand.ensures.rest;
}

pub step-requires : goal.step-requires
step-requires c = c.loop-event.invariant.course

pub loop-event-preserved-in-Silent : goal.loop-event-preserved-in-Silent
loop-event-preserved-in-Silent c = record {
  process = c.step.ensures.process ∙ c.loop-event.invariant.process;
  course = c.step.ensures.course;
  events = ap (λ (es : List TimedMessage). c.loop-event.events.items ++ es) (sym c.in-Silent.ensures.is.2)
      ∙ c.loop-event.invariant.events;
}

pub loop-event-smaller : goal.loop-event-smaller
loop-event-smaller c =
    one_fewer (steps_left c.args.plan.now c.loop-event.strand) (steps_left c.args.plan.now c.step.new.self) c.in-Event.ensures.is.0

pub loop-event-smaller-in-Silent : goal.loop-event-smaller-in-Silent
loop-event-smaller-in-Silent c =
    one_fewer (steps_left c.args.plan.now c.loop-event.strand) (steps_left c.args.plan.now c.step.new.self) c.in-Silent.ensures.is.0
