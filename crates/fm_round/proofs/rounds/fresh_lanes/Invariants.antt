use Rattle.std.proofs.Common.{◌≤◌, vec_capacity}
use Rattle.fm_round.specs.Rounds.{AreFresh}
use Rattle.fm_round.proofs.rounds.fresh_lanes.Given as goal

abbrev pub invariant-loop-process : goal.invariant-loop-process
invariant-loop-process l = record {
  fresh : AreFresh l._process l.room l.lanes.items;
  capacity : l.processes ≤ vec_capacity l.lanes;
}
