use Rattle.std.proofs.Common.{◌≡◌, ◌-◌, length}
use Rattle.fm_round.proofs.Passing.{Gathered}
use Rattle.fm_round.proofs.release.gather_due.Given as goal

abbrev pub invariant-loop-at : goal.invariant-loop-at
invariant-loop-at l = record {
  gathered : Gathered l.fn.key l.next l.fn.lanes l.lanes l.gather.events l.fn.gather.capacity l.at;
  capacity : l.gather.capacity ≡ l.fn.gather.capacity;
}

abbrev pub decreases-loop-at : goal.decreases-loop-at
decreases-loop-at l = length l.lanes - l.at
