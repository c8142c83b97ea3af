use Rattle.std.proofs.Common.{◌≡◌, ◌-◌, ◌<◌, ◌≤◌, length, true}
use Rattle.fm_round.specs.Chain.{link}
use Rattle.fm_round.specs.Lanes.{loads}
use Rattle.fm_round.specs.Turns.{GoesOn}
use Rattle.fm_round.specs.Watching.{AllAwait, AreWatched}
use Rattle.fm_round.proofs.Reaching.{Reached}
use Rattle.fm_round.proofs.turn.take_turn.Given as goal

abbrev pub invariant-loop-at : goal.invariant-loop-at
invariant-loop-at g l = record {
  size : length l.lanes ≡ length l.fn.lanes;
  lead : l.stage.lead ≡ l.fn.stage.lead;
  watched : AreWatched l.plan l.stage.watch l.lanes;
  there : l.at < length l.lanes → 0 < link l.stage.watch.next.items l.at;
  awaited : AllAwait l.plan l.stage.watch l.at l.lanes;
  less : loads l.plan 0 l.lanes ≤ loads l.plan 0 l.fn.lanes;
  goes : GoesOn g.K.Append.seen l.plan l.events l.fn.sink l.sink l.fn.writer l.writer l.fn.lanes l.lanes
      l.fn.stage.gather l.stage.gather;
  reached : l.whole ≡ true → Reached l.plan l.tick l.at l.lanes;
}

abbrev pub decreases-loop-at : goal.decreases-loop-at
decreases-loop-at g l = length l.lanes - l.at
