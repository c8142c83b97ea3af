use Rattle.std.proofs.Common.{◌∙◌, length, ap}
use Rattle.fm_program.specs.Parts.{ProgramParts}
use Rattle.fm_effort.specs.Effort.{program_effort}
use Rattle.fm_effort.specs.Kept.{with_effort}
use Rattle.fm_effort.proofs.FoldLemmas.{summed_next, summed_long, summed_all, summed_few}
use Rattle.fm_effort.proofs.PolicyLemmas.{none_for_long, some_for_short}
use Rattle.fm_effort.proofs.load.load_of.Goals as goal

pub returns-then-operations-gt-MOST_OPERATIONS-clause-exact :
    goal.returns-then-operations-gt-MOST_OPERATIONS-clause-exact
returns-then-operations-gt-MOST_OPERATIONS-clause-exact c =
    let below = rw c.processes-process-end.ensures.value at c.loop-process-test.true in
    let size = c.len.ensures ∙ c.program-program.result.now.ops.ok.0
    ∙ ap (λ (p : ProgramParts). length p.ops) c.program-program.ensures.value in
    none_for_long c.args.plan.now.programs
    (summed_long c.args.plan.now.programs c.loop-process.process c.loop-process.operations c.len.result
    c.saturating_add-operations.result c.loop-process.load below size c.saturating_add-operations.ensures
    c.if-operations-gt-MOST_OPERATIONS.true c.loop-process.invariant)

pub loop-process-preserved : goal.loop-process-preserved
loop-process-preserved c =
    let below = rw c.processes-process-end.ensures.value at c.loop-process-test.true in
    let size = c.len.ensures ∙ c.program-program.result.now.ops.ok.0
    ∙ ap (λ (p : ProgramParts). length p.ops) c.program-program.ensures.value in
    summed_next c.args.plan.now.programs c.loop-process.process c.loop-process.operations c.len.result
    c.saturating_add-operations.result c.loop-process.load c.with_program-load.result below size
    c.saturating_add-operations.ensures c.if-operations-gt-MOST_OPERATIONS.false
    (c.with_program-load.ensures
    ∙ ap (λ (p : ProgramParts). with_effort c.loop-process.load (program_effort p)) c.program-program.ensures.value)
    c.loop-process.invariant

-- ---- behind the loop

pub returns-clause-some : goal.returns-clause-some
returns-clause-some c =
    let over = rw c.processes-process-end.ensures.value at c.loop-process-test.false in
    summed_all c.args.plan.now.programs c.loop-process.process c.loop-process.operations c.loop-process.load over
    c.loop-process.invariant

pub returns-clause-exact : goal.returns-clause-exact
returns-clause-exact c =
    let over = rw c.processes-process-end.ensures.value at c.loop-process-test.false in
    some_for_short c.args.plan.now.programs
    (summed_few c.args.plan.now.programs c.loop-process.process c.loop-process.operations c.loop-process.load over
    c.loop-process.invariant)
