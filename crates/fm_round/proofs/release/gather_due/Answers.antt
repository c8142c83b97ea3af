use Rattle.std.proofs.Common.{◌≡◌, ◌++◌, ℕ, ◌<◌, List, length, get_or, ap, ap₂, ◌∙◌, arith, refl}
use Rattle.fm_msg.specs.Event.{TimedMessage}
use Rattle.fm_buffer.specs.Gather.{EventGather}
use Rattle.fm_round.specs.declared.lane.Lane.{Lane}
use Rattle.fm_round.specs.Lanes.{due, no_lane, room_of, lane, without_due}
use Rattle.fm_round.proofs.Gathering.{mapped_each}
use Rattle.fm_round.proofs.Passing.{gathered_all, gathered_more, gathered_none, room_here}
use Rattle.fm_round.proofs.Running.{any_default}
use Rattle.fm_round.proofs.release.gather_due.Goals as goal

pub loop-at-init : goal.loop-at-init
loop-at-init c = record {
  gathered = gathered_none c.args.key c.args.next.now c.args.lanes.now c.args.gather.now.events c.args.gather.now.capacity c.requires.chained.chain
      c.requires.empty c.requires.space;
  capacity = refl;
}

pub take_due-requires : goal.take_due-requires
take_due-requires c =
    let before = c.loop-at.invariant.gathered in
    let within : c.loop-at.at < length c.args.lanes.now = omega (arith, c.loop-at-test.true, before.size) in
    let at = any_default c.loop-at.lanes c.loop-at.at c.index-lanes-at.result no_lane (omega (arith, c.loop-at-test.true))
    ∙ before.others c.loop-at.at (omega arith) in
    let free = room_here c.args.key c.args.next.now c.args.lanes.now c.loop-at.lanes c.loop-at.gather.events c.args.gather.now.capacity
    c.loop-at.at c.requires.chained.chain c.requires.chained.size c.requires.chained.idle before within in
    omega (arith, free, ap room_of at, c.loop-at.invariant.capacity)

pub loop-at-preserved : goal.loop-at-preserved
loop-at-preserved c =
    let before = c.loop-at.invariant.gathered in
    let within : c.loop-at.at < length c.args.lanes.now = omega (arith, c.loop-at-test.true, before.size) in
    let at : get_or c.loop-at.lanes c.loop-at.at c.index-lanes-at.result ≡ lane c.args.lanes.now c.loop-at.at =
    any_default c.loop-at.lanes c.loop-at.at c.index-lanes-at.result no_lane (omega (arith, c.loop-at-test.true))
    ∙ before.others c.loop-at.at (omega arith) in
    record {
      gathered = gathered_more c.args.key c.args.next.now c.args.lanes.now c.loop-at.lanes c.loop-at.gather.events
          c.args.gather.now.capacity c.loop-at.at c.requires.chained.chain c.requires.chained.size c.requires.chained.idle before within
          c.take_due.new.lane c.take_due.new.gather.events
          (c.take_due.ensures.lane ∙ ap (without_due c.args.key) at)
          (ap (λ (x : EventGather). x.events) c.take_due.ensures.gather
          ∙ ap (λ (s : Lane). c.loop-at.gather.events ++ due c.args.key s) at)
          (omega (arith, c.take_due.ensures.few, ap room_of at, ap (λ (s : Lane). length (due c.args.key s)) at));
      capacity = ap (λ (x : EventGather). x.capacity) c.take_due.ensures.gather ∙ c.loop-at.invariant.capacity;
    }

pub returns-clause-lanes : goal.returns-clause-lanes
returns-clause-lanes c =
    let all = c.loop-at.invariant.gathered in
    mapped_each (without_due c.args.key) c.args.lanes.now c.loop-at.lanes all.size
    (λ k within. all.taken k (omega (arith, within, all.size, c.loop-at-test.false)))

pub returns-clause-gather : goal.returns-clause-gather
returns-clause-gather c =
    let all = c.loop-at.invariant.gathered in
    let make : ℕ → List TimedMessage → EventGather = λ a es. record { capacity = a; events = es } in
    ap₂ make c.loop-at.invariant.capacity
    (gathered_all c.args.key c.args.next.now c.args.lanes.now c.loop-at.lanes c.loop-at.gather.events c.args.gather.now.capacity
    c.loop-at.at all (omega (arith, all.size, c.loop-at-test.false)))
