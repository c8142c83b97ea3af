use Rattle.std.proofs.Common.{ℕ, ◌+◌, ◌-◌, ◌^◌, ◌<◌, ◌≤◌}
use Rattle.fm_tick.specs.declared.tick.TheConstants.{MAX_TICK}
use Rattle.fm_warp.specs.Deformation.{at}
use Rattle.fm_locate.proofs.position.halve.Given as goal

-- each position below `low` lies before the tick, and `high`, where it is a position, does not; what is left
-- between them has as many binary digits as questions are left
abbrev pub invariant-loop-low : goal.invariant-loop-low
invariant-loop-low g l = record {
  ordered : l.low ≤ l.high;
  limited : l.high ≤ MAX_TICK + 1;
  before : (y : ℕ) → y < l.low → at l.warp y < l.t;
  there : l.high ≤ MAX_TICK → l.t ≤ at l.warp l.high;
  begun : l.fn.questions ≤ l.questions;
  few : l.questions ≤ l.fn.questions + 41;
  halved : l.high - l.low < 2 ^ (l.fn.questions + 41 - l.questions);
}

abbrev pub decreases-loop-low : goal.decreases-loop-low
decreases-loop-low g l = l.high - l.low
