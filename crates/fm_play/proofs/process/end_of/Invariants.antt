-- The strand is on its course.
use Rattle.std.proofs.Common.{◌≡◌}
use Rattle.fm_strand.specs.Strand.{InCourse, steps_left}
use Rattle.fm_play.proofs.process.end_of.Given as goal

-- it is that of the process
abbrev pub invariant-loop-strand : goal.invariant-loop-strand
invariant-loop-strand l = record {
  process : l.strand.process ≡ l.process;
  course : InCourse l.plan l.strand;
}

abbrev pub decreases-loop-strand : goal.decreases-loop-strand
decreases-loop-strand l = steps_left l.plan l.strand
