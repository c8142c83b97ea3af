use Rattle.std.proofs.Common.{◌≡◌, length}
use Rattle.fm_round.specs.Watching.{AllLater, AllListed}
use Rattle.fm_round.proofs.watch.all_followers.Given as goal

abbrev pub invariant-loop-process : goal.invariant-loop-process
invariant-loop-process l = record {
  size : length l.lists.items ≡ length l.plan.programs;
  later : AllLater l.plan l.lists.items;
  listed : AllListed l.plan l.process l.lists.items;
}
