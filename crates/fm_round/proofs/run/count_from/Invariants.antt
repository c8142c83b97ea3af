use Rattle.std.proofs.Common.{◌-◌, ◌<◌, ◌≤◌}
use Rattle.fm_round.specs.Chain.{link}
use Rattle.fm_round.proofs.run.count_from.Given as goal

abbrev pub invariant-loop-at : goal.invariant-loop-at
invariant-loop-at l = record {
  there : l.at < l.end → 0 < link l.next l.at;
  many : l.count ≤ l.at;
  within : l.count ≤ l.end;
}

abbrev pub decreases-loop-at : goal.decreases-loop-at
decreases-loop-at l = l.end - l.at
