use Rattle.std.proofs.Common.{◌-◌, ◌<◌, ◌≤◌, length}
use Rattle.fm_round.specs.Chain.{link}
use Rattle.fm_round.specs.Lanes.{LeastOf}
use Rattle.fm_round.proofs.least.least.Given as goal

abbrev pub invariant-loop-at : goal.invariant-loop-at
invariant-loop-at l = record {
  least : LeastOf l.plan l.lanes l.at l.best;
  within : l.at ≤ length l.lanes;
  there : l.at < length l.lanes → 0 < link l.next l.at;
}

abbrev pub decreases-loop-at : goal.decreases-loop-at
decreases-loop-at l = length l.lanes - l.at
