use Rattle.std.proofs.Common.{◌≡◌, length}
use Rattle.fm_play_tests.proofs.offs.those_that_wait_longest_make_room.Given as goal

abbrev pub invariant-loop-key : goal.invariant-loop-key
invariant-loop-key g l = length l.waiting ≡ l.key
