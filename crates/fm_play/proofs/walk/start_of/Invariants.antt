-- The ends of the processes so far.
use Rattle.std.proofs.Common.{◌≡◌}
use Rattle.fm_play.specs.Places.{ends_below}
use Rattle.fm_play.proofs.walk.start_of.Given as goal

-- where the processes before this one end
abbrev pub invariant-loop-before : goal.invariant-loop-before
invariant-loop-before l = l.ends.items ≡ ends_below l.plan l.before
