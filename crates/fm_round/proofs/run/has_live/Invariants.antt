use Rattle.std.proofs.Common.{◌-◌}
use Rattle.fm_round.proofs.Passing.{IdleTo}
use Rattle.fm_round.proofs.run.has_live.Given as goal

abbrev pub invariant-loop-at : goal.invariant-loop-at
invariant-loop-at l = IdleTo l.chain.first l.next l.lanes l.at

abbrev pub decreases-loop-at : goal.decreases-loop-at
decreases-loop-at l = l.end - l.at
