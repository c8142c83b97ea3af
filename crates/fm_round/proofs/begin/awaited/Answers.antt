use Rattle.fm_round.proofs.Starting.{predecessor_there}
use Rattle.fm_round.proofs.begin.awaited.Goals as goal

pub first_live-requires-clause-there : goal.first_live-requires-clause-there
first_live-requires-clause-there c =
    λ i within. predecessor_there c.args.plan.now c.args.lanes.now c.predecessors-predecessors.result.now c.args.process i
    c.requires.fits c.requires.count c.requires.process c.predecessors-predecessors.ensures within

pub first_live-requires-in-None-clause-there : goal.first_live-requires-in-None-clause-there
first_live-requires-in-None-clause-there c =
    λ i within. predecessor_there c.args.plan.now c.args.lanes.now c.predecessors-predecessors.result.now c.args.process i
    c.requires.fits c.requires.count c.requires.process c.predecessors-predecessors.ensures within
