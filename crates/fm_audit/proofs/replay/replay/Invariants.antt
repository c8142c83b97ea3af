-- The steps before this position were taken.
use Rattle.std.proofs.Common.{◌≡◌, ◌-◌, ◌≤◌, length}
use Rattle.fm_audit.proofs.Replaying.{Reaches}
use Rattle.fm_audit.proofs.replay.replay.Given as goal

-- the steps before this position were taken
abbrev pub invariant-loop-position : goal.invariant-loop-position
invariant-loop-position l = record {
  within : l.position ≤ length l.bytes;
  few : l.count ≤ l.position;
  same : l.hall.setting ≡ l.fn.hall.setting;
  reaches : Reaches l.fn.hall.setting l.fn.hall.state l.bytes l.position l.count l.hall.state;
}

abbrev pub decreases-loop-position : goal.decreases-loop-position
decreases-loop-position l = length l.bytes - l.position
