use Rattle.std.proofs.Common.{◌≡◌, map, take, IfSome}
use Rattle.fm_strand.specs.Course.{end_place, start_place}
use Rattle.fm_round.specs.Lanes.{predecessors}
use Rattle.fm_play.specs.Places.{HasLevelsOf}
use Rattle.fm_play.proofs.Meeting.{latest_of}
use Rattle.fm_round.proofs.begin.start_of.Given as goal

-- the latest of the ends in front, which lies in the levels of the start
abbrev pub invariant-loop-before : goal.invariant-loop-before
invariant-loop-before l = record {
  latest : l.latest ≡ latest_of (map (end_place l.plan) (take l.before-index (predecessors l.plan l.process)));
  levels : IfSome l.latest (λ place. HasLevelsOf place (start_place l.plan l.process));
}
