use Rattle.std.proofs.Common.{◌<◌, ◌∙◌, ap, arith}
use Rattle.fm_buffer.specs.Gather.{EventGather}
use Rattle.fm_round.proofs.Freshness.{first_fresh, fresh_as_first, room_sum-fresh}
use Rattle.fm_round.proofs.Watched.{watched_fresh}
use Rattle.fm_round.proofs.rounds.Rounds.open.Goals as goal

pub invariant_of-result : goal.invariant_of-result
invariant_of-result c =
    let lanes = c.in_ok-lanes.ensures in
    let gather = c.in_ok-gather.ensures in
    let value = c.processes-processes.ensures.value in
    let there = c.processes-processes.ensures.fits.some in
    let some : 0 < c.processes-processes.result = omega (arith, value, there) in
    let first = first_fresh c.processes-processes.result _ c.in_ok-lanes.lanes.items lanes some in record {
      opened = record {
        fits = c.processes-processes.ensures.fits;
        some = let least = c.requires.room.0 in omega (arith, first, least);
        count = lanes.count ∙ value;
        fresh = fresh_as_first c.processes-processes.result _ c.in_ok-lanes.lanes.items lanes some;
        empty = ap (λ (g : EventGather). g.events) gather;
        space =
            let sums = room_sum-fresh _ _ lanes in
            let capacity = ap (λ (g : EventGather). g.capacity) gather in omega arith;
      };
      watched = watched_fresh c.args.plan c.in_ok-watch.watch _ c.in_ok-lanes.lanes.items c.in_ok-watch.ensures lanes.fresh;
    }
