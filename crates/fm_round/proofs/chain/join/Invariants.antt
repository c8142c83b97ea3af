use Rattle.std.proofs.Common.{◌-◌, ◌<◌, ◌≤◌}
use Rattle.fm_round.specs.Chain.{link}
use Rattle.fm_round.proofs.chain.join.Given as goal

-- in the chain, and not past the process
abbrev pub invariant-loop-next : goal.invariant-loop-next
invariant-loop-next l = record { on : 0 < link l.next.items l.at; below : l.at ≤ l.process }

abbrev pub decreases-loop-next : goal.decreases-loop-next
decreases-loop-next l = l.process - l.at
