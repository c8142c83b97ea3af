use Rattle.std.proofs.Common.{◌≡◌, ◌++◌, length}
use Rattle.fm_line.specs.Sounds.{left_waiting, out_before}
use Rattle.fm_offs.specs.Stack.{off_sounds}
use Rattle.fm_offs.proofs.all_out.let_out.Given as goal

abbrev pub invariant-loop-off : goal.invariant-loop-off
invariant-loop-off l = record {
  out : off_sounds l.offs.items ++ out_before l.tick l.pitches l.waiting ≡ out_before l.tick l.pitches l.initial.waiting;
  left : left_waiting l.tick l.pitches l.waiting ≡ left_waiting l.tick l.pitches l.initial.waiting;
}

abbrev pub decreases-loop-off : goal.decreases-loop-off
decreases-loop-off l = length l.waiting
