use Rattle.std.proofs.Common.{◌-◌}
use Rattle.fm_round.proofs.Passing.{RanTo}
use Rattle.fm_round.proofs.run.run_chunk.Given as goal

abbrev pub invariant-loop-at : goal.invariant-loop-at
invariant-loop-at g l = RanTo l.round.plan.now l.chain.first l.round.limit l.round.next.now l.fn.lanes l.lanes l.at

abbrev pub decreases-loop-at : goal.decreases-loop-at
decreases-loop-at g l = l.end - l.at
