use Rattle.fm_round.specs.Lanes.{loads}
use Rattle.fm_round.proofs.OneServed.{IsServed}
use Rattle.fm_round.proofs.turn.serve.Given as goal

abbrev pub invariant-loop-more : goal.invariant-loop-more
invariant-loop-more g l = record {
  so_far : IsServed g.K.Append.seen l.plan l.turn.tick l.turn.at l.events l.fn.sink l.sink l.fn.writer l.writer l.fn.lanes l.lanes
      l.fn.gather l.gather;
}

-- each turn but the last one makes a step, or ends the process
abbrev pub decreases-loop-more : goal.decreases-loop-more
decreases-loop-more g l = loads l.plan 0 l.lanes
