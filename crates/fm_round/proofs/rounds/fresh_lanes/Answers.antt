use Rattle.std.proofs.Common.{arith, subst, sym}
use Rattle.fm_round.specs.Rounds.{AreFresh}
use Rattle.fm_round.proofs.Freshness.{fresh_more}
use Rattle.fm_round.proofs.rounds.fresh_lanes.Goals as goal

pub loop-process-preserved : goal.loop-process-preserved
loop-process-preserved c = record {
  fresh = subst (AreFresh _ c.args.room) (sym c.push_reserved.ensures.items)
      (fresh_more c.loop-process._process c.args.room c.loop-process.lanes.items _ c.loop-process.invariant.fresh
      c.in_ok-fresh_lane.ensures);
  capacity = let kept = c.push_reserved.ensures.capacity in let before = c.loop-process.invariant.capacity in omega arith;
}
