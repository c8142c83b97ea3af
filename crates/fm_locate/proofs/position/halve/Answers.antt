use Rattle.std.proofs.Common.{◌≡◌, ◌+◌, ◌-◌, ◌/◌, arith}
use Rattle.fm_tick.specs.declared.tick.TheConstants.{MAX_TICK}
use Rattle.fm_locate.proofs.HalvingLemmas.{halved}
use Rattle.fm_locate.proofs.LocatingLemmas.{at-mono}
use Rattle.fm_locate.proofs.position.halve.Goals as goal

pub loop-low-preserved-then-ask-t : goal.loop-low-preserved-then-ask-t
loop-low-preserved-then-ask-t g c =
    let low = c.loop-low.low in
    let high = c.loop-low.high in
    let middle = low + (high - low) / 2 in
    let left = c.args.questions.now + 41 - c.loop-low.questions in
    let fewer = halved (high - low) (high - (middle + 1)) left (omega arith) c.loop-low.invariant.halved (omega arith) in
    let one : left - 1 ≡ c.args.questions.now + 41 - c.ask.new.self = omega (arith, c.ask.ensures.count) in
    record {
      ordered = omega arith;
      limited = c.loop-low.invariant.limited;
      before = λ y below. omega (arith, c.if-ask-t.true, c.ask.ensures.value, at-mono c.args.warp.now y middle (omega arith));
      there = c.loop-low.invariant.there;
      begun = omega (arith, c.ask.ensures.count, c.loop-low.invariant.begun);
      few = omega (arith, c.ask.ensures.count, c.loop-low.invariant.begun, fewer.0);
      halved = rw (← one) fewer.1;
    }

pub loop-low-preserved : goal.loop-low-preserved
loop-low-preserved g c =
    let low = c.loop-low.low in
    let high = c.loop-low.high in
    let middle = low + (high - low) / 2 in
    let left = c.args.questions.now + 41 - c.loop-low.questions in
    let fewer = halved (high - low) (middle - low) left (omega arith) c.loop-low.invariant.halved (omega arith) in
    let one : left - 1 ≡ c.args.questions.now + 41 - c.ask.new.self = omega (arith, c.ask.ensures.count) in
    record {
      ordered = omega arith;
      limited = omega (arith, c.loop-low.invariant.limited);
      before = c.loop-low.invariant.before;
      there = λ in_range. omega (arith, c.if-ask-t.false, c.ask.ensures.value);
      begun = omega (arith, c.ask.ensures.count, c.loop-low.invariant.begun);
      few = omega (arith, c.ask.ensures.count, c.loop-low.invariant.begun, fewer.0);
      halved = rw (← one) fewer.1;
    }

pub returns-else-high-gt-MAX_TICK-clause-none : goal.returns-else-high-gt-MAX_TICK-clause-none
returns-else-high-gt-MAX_TICK-clause-none g c =
    let there = c.loop-low.invariant.there (omega (arith, c.if-high-gt-MAX_TICK.false)) in
    let mono = at-mono c.args.warp.now c.loop-low.high MAX_TICK (omega (arith, c.if-high-gt-MAX_TICK.false)) in
    (λ none. cc, λ short. absurd (omega (arith, there, mono, short)))
