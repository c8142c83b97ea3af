-- The strand ends where the process does.
use Rattle.std.proofs.Common.{◌≡◌, ◌+◌, ◌<◌, ℕ, ◌∙◌, ap, arith}
use Rattle.fm_strand.specs.Course.{end_place}
use Rattle.fm_strand.specs.Strand.{place_reached, steps_left}
use Rattle.fm_strand.proofs.WholeLemmas.{at-end}
use Rattle.fm_play.proofs.process.end_of.Goals as goal

pub returns-in-Ended : goal.returns-in-Ended
returns-in-Ended c =
    let p = c.args.plan.now in
    let invariant = c.loop-strand.invariant in
    let end = at-end p c.loop-strand.strand invariant.course c.in-Ended.ensures.is.0 in
    c.place.ensures p c.in-Ended.ensures.course
    ∙ ap (place_reached p) c.in-Ended.ensures.is.1
    ∙ end.2
    ∙ ap (end_place p) invariant.process

-- ---- the loop

one_fewer : (a b : ℕ) → a ≡ b + 1 → b < a
one_fewer a b is = omega (arith, is)

pub begin-strand-requires-clause-process : goal.begin-strand-requires-clause-process
begin-strand-requires-clause-process c = c.requires.process

pub begin-strand-requires-clause-place : goal.begin-strand-requires-clause-place
begin-strand-requires-clause-place c = c.requires.place

pub loop-strand-init : goal.loop-strand-init
loop-strand-init c = record { process = c.begin-strand.ensures.process; course = c.begin-strand.ensures.course }

pub step-requires : goal.step-requires
step-requires c = c.loop-strand.invariant.course

pub loop-strand-preserved : goal.loop-strand-preserved
loop-strand-preserved c = record {
  process = c.step.ensures.process ∙ c.loop-strand.invariant.process;
  course = c.step.ensures.course;
}

pub loop-strand-preserved-in-Silent : goal.loop-strand-preserved-in-Silent
loop-strand-preserved-in-Silent c = record {
  process = c.step.ensures.process ∙ c.loop-strand.invariant.process;
  course = c.step.ensures.course;
}

pub loop-strand-smaller : goal.loop-strand-smaller
loop-strand-smaller c =
    one_fewer (steps_left c.args.plan.now c.loop-strand.strand) (steps_left c.args.plan.now c.step.new.self) c.in-Event.ensures.is.0

pub loop-strand-smaller-in-Silent : goal.loop-strand-smaller-in-Silent
loop-strand-smaller-in-Silent c =
    one_fewer (steps_left c.args.plan.now c.loop-strand.strand) (steps_left c.args.plan.now c.step.new.self) c.in-Silent.ensures.is.0
