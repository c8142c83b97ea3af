use Rattle.std.proofs.Common.{◌-◌, ◌+◌, ◌<◌, length, sym, subst, arith}
use Rattle.fm_round.specs.declared.lane.Lane.{Lane}
use Rattle.fm_round.specs.Lanes.{IsLaneOf, Runs, no_lane}
use Rattle.fm_round.proofs.Passing.{lane_here, ran_more, ran_none}
use Rattle.fm_round.proofs.Running.{any_default}
use Rattle.fm_round.proofs.run.run_chunk.Goals as goal

pub loop-at-preserved : goal.loop-at-preserved
loop-at-preserved g c =
    let before = c.loop-at.invariant in
    let within : c.loop-at.at < c.args.chain.first + length c.args.lanes.now = omega (arith, c.loop-at-test.true) in
    let at = any_default c.loop-at.lanes (c.loop-at.at - c.args.chain.first) c.index-lanes-at.result no_lane
    (omega (arith, within, before.from, before.size)) in
    ran_more c.args.round.now.plan.now c.args.chain.first c.args.round.now.limit c.args.round.now.next.now c.args.lanes.now c.requires.chain.chain c.requires.lanes
    c.requires.chain.idle c.requires.chain.size c.loop-at.lanes c.loop-at.at before within c.run_lane.new.lane
    (subst (λ (s : Lane). Runs c.args.round.now.plan.now c.loop-at.at c.args.round.now.limit s c.run_lane.new.lane) at c.run_lane.ensures)

pub loop-at-init : goal.loop-at-init
loop-at-init g c =
    ran_none c.args.round.now.plan.now c.args.chain.first c.args.round.now.limit c.args.round.now.next.now c.args.lanes.now
    c.requires.chain.chain c.requires.lanes c.requires.chain.idle c.requires.chain.size c.args.chain.head c.requires.chain.enters

pub run_lane-requires : goal.run_lane-requires
run_lane-requires g c =
    let before = c.loop-at.invariant in
    let within : c.loop-at.at < c.args.chain.first + length c.args.lanes.now = omega (arith, c.loop-at-test.true) in
    let at = any_default c.loop-at.lanes (c.loop-at.at - c.args.chain.first) c.index-lanes-at.result no_lane
    (omega (arith, within, before.from, before.size)) in
    subst (IsLaneOf c.args.round.now.plan.now c.loop-at.at) (sym at)
    (lane_here c.args.round.now.plan.now c.args.chain.first c.args.round.now.limit c.args.round.now.next.now c.args.lanes.now
    c.requires.chain.chain c.requires.lanes c.requires.chain.idle c.requires.chain.size c.loop-at.lanes c.loop-at.at before within)
