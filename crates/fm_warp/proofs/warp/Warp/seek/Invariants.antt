use Rattle.std.proofs.Common.{length, ◌-◌, ◌≤◌}
use Rattle.fm_warp.specs.Walk.{EndsAbove, Reaches}
use Rattle.fm_warp.proofs.warp.Warp.seek.Given as goal

-- the walk is not above the tick; the part at `high`, if there is one, ends above it
abbrev pub invariant-loop-walk : goal.invariant-loop-walk
invariant-loop-walk l = record {
  reaches : Reaches l.self-inside.parts.items l.walk l.x;
  ordered : l.walk.index ≤ l.high;
  within : l.high ≤ length l.self-inside.parts.items;
  there : EndsAbove l.self-inside.parts.items l.high l.x;
}

abbrev pub decreases-loop-walk : goal.decreases-loop-walk
decreases-loop-walk l = l.high - l.walk.index
