use Rattle.std.proofs.Common.{◌≤◌, ◌∙◌, length, get_or, arith}
use Rattle.fm_round.specs.Lanes.{predecessors}
use Rattle.fm_round.proofs.Listing.{listed_here, listed_more, lists_kept, lists_later, predecessor_less}
use Rattle.fm_round.proofs.watch.list_process.Goals as goal

pub list-requires : goal.list-requires
list-requires c =
    let less = predecessor_less c.args.plan.now c.predecessors-before-items.result.now c.args.process c.loop-before.before-index
    c.requires.fits c.predecessors-before-items.ensures c.loop-before-test.true in
    omega (arith, c.requires.process, c.requires.size, c.loop-before.invariant.size)

pub loop-before-preserved : goal.loop-before-preserved
loop-before-preserved c =
    let less = predecessor_less c.args.plan.now c.predecessors-before-items.result.now c.args.process c.loop-before.before-index
    c.requires.fits c.predecessors-before-items.ensures c.loop-before-test.true in
    record {
      size = c.in_ok-list.ensures.size ∙ c.loop-before.invariant.size;
      later = lists_later c.args.plan.now (get_or c.predecessors-before-items.result.now c.loop-before.before-index 0) c.args.process
          c.loop-before.lists.items c.list.new.lists.items c.in_ok-list.ensures less c.requires.process c.loop-before.invariant.later;
      listed = λ j i below inside. lists_kept (get_or c.predecessors-before-items.result.now c.loop-before.before-index 0) c.args.process
          c.loop-before.lists.items c.list.new.lists.items c.in_ok-list.ensures (get_or (predecessors c.args.plan.now j) i 0) j
          (c.loop-before.invariant.listed j i below inside);
      here = listed_here c.args.plan.now c.predecessors-before-items.result.now c.args.process c.loop-before.before-index
          c.loop-before.lists.items c.list.new.lists.items c.predecessors-before-items.ensures c.in_ok-list.ensures
          c.loop-before.invariant.here;
    }

pub returns-clause-listed : goal.returns-clause-listed
returns-clause-listed c =
    let to_end : length (predecessors c.args.plan.now c.args.process) ≤ c.loop-before.before-index =
    rw (← c.predecessors-before-items.ensures) c.loop-before-test.false in
    listed_more c.args.plan.now c.args.process c.loop-before.lists.items c.loop-before.invariant.listed
    (λ i inside. c.loop-before.invariant.here i (omega arith))
