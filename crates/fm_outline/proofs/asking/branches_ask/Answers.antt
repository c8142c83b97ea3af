use Rattle.std.proofs.Common.{◌≡◌, map, take, Vec, Global}
use Rattle.std.proofs.lemmas.List.{take_all}
use Rattle.fm_outline.specs.declared.step.Step.{Step}
use Rattle.fm_outline.specs.View.{block_view}
use Rattle.fm_outline.proofs.AskingLemmas.{fork_asks_more}
use Rattle.fm_outline.proofs.ForkLemmas.{branch_marked}
use Rattle.fm_outline.proofs.MapLemmas.{map_take_more}
use Rattle.fm_outline.proofs.NeedsLemmas.{nothing_tells}
use Rattle.fm_outline.proofs.asking.branches_ask.Goals as goal

pub loop-branch-init : goal.loop-branch-init
loop-branch-init c = λ t look all. rw c.no_needs-needs.ensures nothing_tells

pub loop-branch-preserved : goal.loop-branch-preserved
loop-branch-preserved c = λ t look all.
    let view = λ (b : Vec Step Global). block_view look b.items in
    let bs = c.args.branches.now in
    let i = c.loop-branch.branch-index in
    let b = c.branch-item.result in
    rw (map_take_more view bs i b c.loop-branch-test.true c.branch-item.is, c.both-needs.ensures)
    (fork_asks_more t (map view (take i bs)) (block_view look b.items) c.loop-branch.needs c.steps_ask.result
    (c.loop-branch.invariant t look all)
    (rw c.deref.ensures.value at (c.steps_ask.ensures t look
    (rw c.deref.ensures.value (branch_marked bs i b c.loop-branch-test.true c.branch-item.is all)))))

pub returns : goal.returns
returns c = λ t look all.
    let whole : take c.loop-branch.branch-index c.args.branches.now ≡ c.args.branches.now
    = take_all c.loop-branch.branch-index c.args.branches.now c.loop-branch-test.false in
    rw whole at (c.loop-branch.invariant t look all)
