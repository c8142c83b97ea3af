-- So many marks are wiped.
use Rattle.std.proofs.Common.{◌≡◌, length, take, replicate}
use Rattle.fm_state.proofs.visits.wipe.Given as goal

abbrev pub invariant-loop-i : goal.invariant-loop-i
invariant-loop-i l =
    (take l.i l.marks.items ≡ replicate l.i 0) × (length l.marks.items ≡ length l.initial.marks.items)
