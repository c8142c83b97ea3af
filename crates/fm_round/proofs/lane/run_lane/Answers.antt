use Rattle.std.proofs.Common.{Some, refl, subst}
use Rattle.fm_round.specs.Lanes.{IsRun}
use Rattle.fm_round.proofs.Quanta.{ran}
use Rattle.fm_round.proofs.lane.run_lane.Goals as goal

pub returns : goal.returns
returns g c =
    let at_strand = subst (IsRun c.args.plan.now c.args.process c.args.lane.now.ended c.args.lane.now.outbox.events)
    c.in-Some.is c.requires in
    let run = subst (λ b. IsRun c.args.plan.now c.args.process b c.args.lane.now.outbox.events (Some c.in-Some.strand))
    c.if-lane.false at_strand in
    ran c.args.plan.now c.args.process c.args.limit c.args.lane.now _ c.in-Some.strand c.quantum-answer.new.self c.quantum-answer.result
    c.in-Some.is c.if-lane.false run c.quantum-answer.ensures refl c.at_end-lane.ensures
