use Rattle.std.proofs.Common.{length, sym, ap, ◌∙◌, inr, arith}
use Rattle.fm_line.specs.Line.{line}
use Rattle.fm_program.specs.Parts.{PlanParts}
use Rattle.fm_program.specs.Process.{plan_lines}
use Rattle.fm_crew.proofs.Visits.{brings_behind, looks_then}
use Rattle.fm_crew.proofs.pass.visit.Goals as goal

pub wait_for-requires-clause-turn : goal.wait_for-requires-clause-turn
wait_for-requires-clause-turn g c =
    let there = c.requires.turn.there in
    let many = ap (λ (q : PlanParts). length q.programs) c.in-None.ensures.beside.looks.stays.plan in
    record { there = omega (arith, there, many); turn = inr (inr (sym c.in-None.ensures.beside.looks.swept)) }

pub returns-in-Some-wait_for : goal.returns-in-Some-wait_for
returns-in-Some-wait_for g c =
    let had = c.in-None.ensures.beside.looks in
    let then = c.in-Some-wait_for.ensures.visited in
    record {
      looks = looks_then c.args.process c.args.conductor.now c.attend.new.conductor c.wait_for.new.conductor had then.looks;
      passed = then.passed;
      end = λ done. then.end (had.stays.published ∙ done)
          ∙ ap (λ (q : PlanParts). (line (plan_lines q) c.args.process).end) had.stays.plan;
      brings = brings_behind c.args.pass.due c.args.pass.limit c.args.process c.args.conductor.now c.attend.new.conductor
          c.wait_for.new.conductor had.grows then.looks.grows then.brings;
    }
