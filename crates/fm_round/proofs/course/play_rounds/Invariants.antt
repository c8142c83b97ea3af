use Rattle.std.proofs.Common.{◌≡◌, length}
use Rattle.fm_round.specs.Rounds.{first_room}
use Rattle.fm_round.specs.Halfway.{Between}
use Rattle.fm_round.specs.Lanes.{AllStarted, loads}
use Rattle.fm_round.specs.Watching.{Watched}
use Rattle.fm_round.proofs.course.play_rounds.Given as goal

abbrev pub invariant-loop-next : goal.invariant-loop-next
invariant-loop-next g l = record {
  between : Between g.K.Append.seen l.plan (first_room l.fn.lanes) l.fn.sink l.sink l.fn.writer l.writer l.lanes l.stage.gather l.events;
  started : AllStarted l.plan l.lanes (length l.lanes);
  watched : Watched l.plan l.stage.watch l.lanes;
  lead : l.stage.lead ≡ l.fn.stage.lead;
}

-- a round makes a step, or ends a process
abbrev pub decreases-loop-next : goal.decreases-loop-next
decreases-loop-next g l = loads l.plan 0 l.lanes
