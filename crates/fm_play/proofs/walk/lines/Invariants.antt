-- The lines and the ends of the processes so far.
use Rattle.std.proofs.Common.{◌≡◌, take}
use Rattle.fm_program.specs.Process.{plan_lines}
use Rattle.fm_play.specs.Places.{ends_below}
use Rattle.fm_play.proofs.walk.lines.Given as goal

-- the lines and the ends of the processes so far
abbrev pub invariant-loop-process : goal.invariant-loop-process
invariant-loop-process l = record {
  lines : l.lines.items ≡ take l.process (plan_lines l.plan);
  ends : l.ends.items ≡ ends_below l.plan l.process;
}
