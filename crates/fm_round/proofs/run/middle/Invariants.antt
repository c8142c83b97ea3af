use Rattle.std.proofs.Common.{◌<◌, ◌≤◌}
use Rattle.fm_round.specs.Chain.{link}
use Rattle.fm_round.proofs.run.middle.Given as goal

abbrev pub invariant-loop-passed : goal.invariant-loop-passed
invariant-loop-passed l = record {
  there : l.at < l.end → 0 < link l.next l.at;
  from : l.head ≤ l.at;
}
