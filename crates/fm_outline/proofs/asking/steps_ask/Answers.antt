use Rattle.std.proofs.Common.{◌≡◌, take}
use Rattle.std.proofs.lemmas.List.{take_all}
use Rattle.fm_outline.proofs.AskingLemmas.{block_more, none_ask}
use Rattle.fm_outline.proofs.ForkLemmas.{says}
use Rattle.fm_outline.proofs.MapLemmas.{take_one_more}
use Rattle.fm_outline.proofs.asking.steps_ask.Goals as goal

pub loop-step-init : goal.loop-step-init
loop-step-init c = λ t look all. rw c.no_needs-needs.ensures (none_ask t)

pub loop-step-preserved : goal.loop-step-preserved
loop-step-preserved c = λ t look all.
    let xs = c.args.steps.now in
    let i = c.loop-step.step-index in
    let x = c.step-item.result in
    rw (take_one_more xs i x c.loop-step-test.true c.step-item.is, c.both-needs.ensures)
    (block_more t look (take i xs) x c.loop-step.needs (c.loop-step.invariant t look all)
    (says (all x i c.loop-step-test.true c.step-item.is)))

pub returns : goal.returns
returns c = λ t look all.
    let whole : take c.loop-step.step-index c.args.steps.now ≡ c.args.steps.now
    = take_all c.loop-step.step-index c.args.steps.now c.loop-step-test.false in
    rw whole at (c.loop-step.invariant t look all)
