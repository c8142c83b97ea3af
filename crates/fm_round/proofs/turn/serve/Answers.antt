use Rattle.std.proofs.Common.{◌+◌, ◌≤◌, sym, ap, ◌∙◌, subst, arith}
use Rattle.fm_edge.proofs.Chains.{on_err}
use Rattle.fm_line.specs.declared.limits.TheConstants.{MAX_EVENTS}
use Rattle.fm_round.specs.Lanes.{IsLaneOf, Runs, live_clock, no_lane}
use Rattle.fm_round.specs.Turns.{is_past}
use Rattle.fm_round.specs.declared.lane.Lane.{Lane}
use Rattle.fm_round.proofs.Goings.{few_between}
use Rattle.fm_round.proofs.OneServed.{IsServed, falls_here, lane_here, loads_kept, may_release_here, owns_here, playing_here, served_all, served_more, served_none, served_on, stops_here, there_here, waits_later}
use Rattle.fm_round.proofs.Running.{any_default}
use Rattle.fm_round.proofs.Serving.{not_false}
use Rattle.fm_round.proofs.turn.serve.Given.{Over}
use Rattle.fm_round.proofs.turn.serve.Goals.{In_ok-more}
use Rattle.fm_round.proofs.turn.serve.Goals as goal

pub loop-more-init : goal.loop-more-init
loop-more-init g c = record {
  so_far = served_none c.args.plan.now c.args.turn.tick c.args.turn.at c.args.sink.now c.args.writer.now c.args.lanes.now
      c.args.gather.now (c.requires.from (not_false c.args.turn.whole c.if-not-turn.false));
}

pub release_own-requires-clause-own : goal.release_own-requires-clause-own
release_own-requires-clause-own g c = owns_here c.requires.may c.requires.there c.loop-more.invariant.so_far

pub release_own-requires-clause-may : goal.release_own-requires-clause-may
release_own-requires-clause-may g c = may_release_here c.requires.may c.requires.there c.loop-more.invariant.so_far

pub release_own-requires-clause-at_end : goal.release_own-requires-clause-at_end
release_own-requires-clause-at_end g c = (playing_here c.requires.may c.requires.there c.loop-more.invariant.so_far).between.at_end

pub returns-in_err-more-clause-err : goal.returns-in_err-more-clause-err
returns-in_err-more-clause-err g c =
    on_err c.from_residual.result
    (stops_here c.requires.may c.requires.there c.loop-more.invariant.so_far c.in_err-more.ensures.err)

-- ---- once what was due of it is written

known : (g : Over) (c : In_ok-more g) → IsServed g.K.Append.seen c.args.plan.now c.args.turn.tick c.args.turn.at
    (c.loop-more.events + c.in_ok-more.more) c.args.sink.now c.release_own.new.sink c.args.writer.now c.release_own.new.writer
    c.args.lanes.now c.release_own.new.lanes c.args.gather.now c.release_own.new.gather
known g c =
    served_more c.requires.may c.requires.there c.loop-more.invariant.so_far c.in_ok-more.ensures.lanes
    c.in_ok-more.ensures.count c.in_ok-more.ensures.ok c.in_ok-more.ensures.gather

pub overflow_add-events : goal.overflow_add-events
overflow_add-events g c =
    let served = known g (goal.at.overflow_add-events g c).In_ok-more in
    let few : c.requires.may.events + (c.loop-more.events + c.in_ok-more.more) ≤ MAX_EVENTS =
    few_between c.requires.may.fits
    (served.goes c.requires.may.room c.requires.may.begin c.requires.may.first c.requires.may.events c.requires.may.begun
    c.requires.may.between) in
    omega arith

pub has_passed-requires : goal.has_passed-requires
has_passed-requires g c =
    let served = known g (goal.at.has_passed-requires g c).In_ok-more in
    subst (IsLaneOf c.args.plan.now c.args.turn.at)
    (sym (any_default c.release_own.new.lanes c.args.turn.at c.index-lanes-turn.result no_lane
    (there_here c.requires.may c.requires.there served)))
    (lane_here c.requires.may c.requires.there served)

pub returns-then-has_passed-clause-serves : goal.returns-then-has_passed-clause-serves
returns-then-has_passed-clause-serves g c =
    let served = known g (goal.at.returns-then-has_passed-clause-serves g c).In_ok-more in
    let at = any_default c.release_own.new.lanes c.args.turn.at c.index-lanes-turn.result no_lane
    (there_here c.requires.may c.requires.there served) in
    served_all c.requires.may c.requires.there served
    (waits_later c.requires.may c.requires.there c.loop-more.invariant.so_far c.in_ok-more.ensures.lanes)
    (sym (ap (λ (s : Lane). is_past c.args.turn.tick (live_clock c.args.plan.now s)) at) ∙ sym c.has_passed.ensures
    ∙ c.if-has_passed.true)

pub returns-then-has_passed-clause-goes : goal.returns-then-has_passed-clause-goes
returns-then-has_passed-clause-goes g c = (known g (goal.at.returns-then-has_passed-clause-goes g c).In_ok-more).goes

pub returns-then-has_passed-clause-whole : goal.returns-then-has_passed-clause-whole
returns-then-has_passed-clause-whole g c = λ is. not_false c.args.turn.whole c.if-not-turn.false

pub returns-then-more-eq0-clause-serves : goal.returns-then-more-eq0-clause-serves
returns-then-more-eq0-clause-serves g c = (known g (goal.at.returns-then-more-eq0-clause-serves g c).In_ok-more).serves

pub returns-then-more-eq0-clause-goes : goal.returns-then-more-eq0-clause-goes
returns-then-more-eq0-clause-goes g c = (known g (goal.at.returns-then-more-eq0-clause-goes g c).In_ok-more).goes

pub run_lane-requires : goal.run_lane-requires
run_lane-requires g c =
    let served = known g (goal.at.run_lane-requires g c).In_ok-more in
    subst (IsLaneOf c.args.plan.now c.args.turn.at)
    (sym (any_default c.release_own.new.lanes c.args.turn.at c.index-lanes-turn-in-loop-more.result no_lane
    (there_here c.requires.may c.requires.there served)))
    (lane_here c.requires.may c.requires.there served)

pub loop-more-smaller : goal.loop-more-smaller
loop-more-smaller g c =
    let served = known g (goal.at.loop-more-smaller g c).In_ok-more in
    let there = there_here c.requires.may c.requires.there served in
    let at = any_default c.release_own.new.lanes c.args.turn.at c.index-lanes-turn.result no_lane there in
    let here = any_default c.release_own.new.lanes c.args.turn.at c.index-lanes-turn-in-loop-more.result no_lane there in
    let falls = falls_here c.requires.may c.requires.there served
    (waits_later c.requires.may c.requires.there c.loop-more.invariant.so_far c.in_ok-more.ensures.lanes)
    (sym (ap (λ (s : Lane). is_past c.args.turn.tick (live_clock c.args.plan.now s)) at) ∙ sym c.has_passed.ensures
    ∙ c.if-has_passed.false) c.run_lane.new.lane
    (subst (λ (s : Lane). Runs c.args.plan.now c.args.turn.at c.args.turn.tick s c.run_lane.new.lane) here c.run_lane.ensures) in
    let same = loads_kept c.requires.may c.requires.there c.loop-more.invariant.so_far c.in_ok-more.ensures.lanes in
    omega arith

pub loop-more-preserved : goal.loop-more-preserved
loop-more-preserved g c =
    let served = known g (goal.at.loop-more-preserved g c).In_ok-more in
    let there = there_here c.requires.may c.requires.there served in
    let at = any_default c.release_own.new.lanes c.args.turn.at c.index-lanes-turn.result no_lane there in
    let here = any_default c.release_own.new.lanes c.args.turn.at c.index-lanes-turn-in-loop-more.result no_lane there in
    record {
      so_far = served_on c.requires.may c.requires.there served
          (waits_later c.requires.may c.requires.there c.loop-more.invariant.so_far c.in_ok-more.ensures.lanes)
          (sym (ap (λ (s : Lane). is_past c.args.turn.tick (live_clock c.args.plan.now s)) at) ∙ sym c.has_passed.ensures
          ∙ c.if-has_passed.false) c.run_lane.new.lane
          (subst (λ (s : Lane). Runs c.args.plan.now c.args.turn.at c.args.turn.tick s c.run_lane.new.lane) here c.run_lane.ensures);
    }
