use Rattle.std.proofs.Common.{sym, ap, ◌∙◌, subst, arith}
use Rattle.fm_round.specs.Chain.{link}
use Rattle.fm_round.specs.Lanes.{LeastOf, live_clock, no_lane}
use Rattle.fm_round.proofs.Passing.{least_passed}
use Rattle.fm_round.proofs.Running.{any_default}
use Rattle.fm_round.proofs.least.least.Goals as goal

pub loop-at-preserved : goal.loop-at-preserved
loop-at-preserved c =
    let at = c.index-lanes-at.is ∙ any_default c.args.lanes.now c.loop-at.at c.index-lanes-at.result no_lane c.loop-at-test.true in
    let on = c.loop-at.invariant.there c.loop-at-test.true in
    let all = c.requires.chained.chain.within c.loop-at.at in
    record {
      least = subst (LeastOf c.args.plan.now c.args.lanes.now (link c.args.next.now c.loop-at.at)) (sym c.lesser-best.ensures)
          (least_passed c.args.plan.now c.args.lanes.now c.args.next.now c.loop-at.at c.loop-at.best c.clock.result c.requires.chained.chain
          c.requires.chained.size c.requires.chained.idle on (sym (c.clock.ensures ∙ ap (live_clock c.args.plan.now) at)) c.loop-at.invariant.least);
      within = omega (arith, c.requires.chained.size);
      there = λ less. c.requires.chained.chain.linked c.loop-at.at on (omega (arith, less, c.requires.chained.size));
    }

pub returns : goal.returns
returns c =
    subst (λ j. LeastOf c.args.plan.now c.args.lanes.now j c.loop-at.best)
    (omega (arith, c.loop-at.invariant.within, c.loop-at-test.false)) c.loop-at.invariant.least
