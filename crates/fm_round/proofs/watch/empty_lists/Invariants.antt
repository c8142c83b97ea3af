use Rattle.std.proofs.Common.{◌≤◌, vec_capacity}
use Rattle.fm_round.specs.Watching.{AreEmpty}
use Rattle.fm_round.proofs.watch.empty_lists.Given as goal

abbrev pub invariant-loop-list : goal.invariant-loop-list
invariant-loop-list l = record {
  empty : AreEmpty l._list l.lists.items;
  capacity : l.many ≤ vec_capacity l.lists;
}
