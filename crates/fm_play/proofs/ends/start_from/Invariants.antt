-- The latest of the ends so far.
use Rattle.std.proofs.Common.{◌≡◌, map, take, IfSome}
use Rattle.fm_program.specs.Parts.{process_program}
use Rattle.fm_strand.specs.Course.{end_place, start_place}
use Rattle.fm_play.specs.Places.{HasLevelsOf}
use Rattle.fm_play.proofs.Meeting.{latest_of}
use Rattle.fm_play.proofs.ends.start_from.Given as goal

-- the latest of the ends in front, which lies in the levels of the start
abbrev pub invariant-loop-before : goal.invariant-loop-before
invariant-loop-before l = record {
  latest : l.latest ≡ latest_of (map (end_place l.plan) (take l.before-index (process_program l.plan l.process).predecessors));
  levels : IfSome l.latest (λ place. HasLevelsOf place (start_place l.plan l.process));
}
