use Rattle.std.proofs.Common.{◌≡◌, ◌<◌, length}
use Rattle.fm_round.specs.Chain.{link}
use Rattle.fm_round.specs.Starts.{StartsBehind}
use Rattle.fm_round.specs.Watching.{AllAwait, AreWatched, list_of}
use Rattle.fm_round.proofs.begin.ask_followers.Given as goal

abbrev pub invariant-loop-process : goal.invariant-loop-process
invariant-loop-process l = record {
  size : length l.lanes ≡ length l.fn.lanes;
  starts : StartsBehind l.plan l.before l.fn.lanes l.lanes;
  watched : AreWatched l.plan l.watch l.lanes;
  chained : 0 < link l.watch.next.items l.before;
  awaited : AllAwait l.plan l.watch l.before l.lanes;
}

-- the list gets shorter
abbrev pub decreases-loop-process : goal.decreases-loop-process
decreases-loop-process l = length (list_of l.watch.followers.items l.before)
