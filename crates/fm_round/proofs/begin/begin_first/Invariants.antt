use Rattle.std.proofs.Common.{◌≡◌, length}
use Rattle.fm_round.specs.Lanes.{AllStarted}
use Rattle.fm_round.specs.Starts.{StartsSome}
use Rattle.fm_round.specs.Watching.{AreWatched}
use Rattle.fm_round.proofs.begin.begin_first.Given as goal

abbrev pub invariant-loop-process : goal.invariant-loop-process
invariant-loop-process l = record {
  size : length l.lanes ≡ length l.fn.lanes;
  starts : StartsSome l.plan l.fn.lanes l.lanes;
  started : AllStarted l.plan l.lanes l.process;
  watched : AreWatched l.plan l.watch l.lanes;
}
