-- What was given and what is to come is the line.
use Rattle.std.proofs.Common.{◌≡◌, ◌++◌}
use Rattle.fm_line.specs.Line.{line}
use Rattle.fm_program.specs.Process.{plan_lines}
use Rattle.fm_strand.specs.Strand.{InCourse, rest, steps_left}
use Rattle.fm_play.proofs.process.line_of.Given as goal

-- what was given and what is to come is the line
abbrev pub invariant-loop-event : goal.invariant-loop-event
invariant-loop-event l = record {
  process : l.strand.process ≡ l.process;
  course : InCourse l.plan l.strand;
  events : l.events.items ++ rest l.plan l.strand ≡ (line (plan_lines l.plan) l.process).events;
}

abbrev pub decreases-loop-event : goal.decreases-loop-event
decreases-loop-event l = steps_left l.plan l.strand
