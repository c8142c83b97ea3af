use Rattle.std.proofs.Common.{◌+◌, arith, subst, sym}
use Rattle.fm_round.specs.Watching.{AreEmpty}
use Rattle.fm_round.proofs.Listing.{empty_more}
use Rattle.fm_round.proofs.watch.empty_lists.Goals as goal

pub loop-list-preserved : goal.loop-list-preserved
loop-list-preserved c = record {
  empty = subst (AreEmpty (c.loop-list._list + 1)) (sym c.push_reserved.ensures.items)
      (empty_more c.loop-list._list c.loop-list.lists.items c.new.result c.loop-list.invariant.empty c.new.ensures.items);
  capacity = let kept = c.push_reserved.ensures.capacity in let before = c.loop-list.invariant.capacity in omega arith;
}
