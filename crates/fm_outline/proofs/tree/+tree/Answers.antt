use Rattle.std.proofs.Common.{◌≡◌, ◌∙◌, ap, sym, map, arith, Vec, Global}
use Rattle.fm_grammar.specs.declared.item.Item.{Item}
use Rattle.fm_grammar.specs.Score as text
use Rattle.fm_grammar.specs.View.{branches_of, expr_view, item_view, items_view, placed}
use Rattle.fm_grammar.proofs.StatementViews.{choice_seen, par_seen}
use Rattle.fm_outline.proofs.TreeLemmas.{items_more, items_end, branches_more, branches_end, of_kind}
use Rattle.fm_outline.proofs.tree.+tree.Goals as goal

pub tell_item-returns-in_ok-no-in-If : goal.tell_item-returns-in_ok-no-in-If
tell_item-returns-in_ok-no-in-If t c =
    let i = c.args.item.now in
    let e = expr_view c.in_ok-test-in-If.test in
    let a = c.deref-in-If.result.now in
    let b = c.deref-in-If-2.result.now in
    let seen : item_view i ≡ placed i.spot (text.choice e (items_view a) (items_view b))
    = of_kind i _ c.in-If.is ∙ choice_seen _ _ _ _
    ∙ ap (λ x. placed i.spot (text.choice x (items_view c.in-If.yes.items) (items_view c.in-If.no.items))) (sym c.in_ok-test-in-If.ensures)
    ∙ ap (λ l. placed i.spot (text.choice e (items_view l) (items_view c.in-If.no.items))) (sym c.deref-in-If.ensures.value)
    ∙ ap (λ l. placed i.spot (text.choice e (items_view a) (items_view l))) (sym c.deref-in-If-2.ensures.value) in
    rw seen (c.choose.ensures _ _ _ i.spot e (items_view a) (items_view b) c.test-tested.ensures c.in_ok-yes-in-If.ensures
    c.in_ok-no-in-If.ensures)

pub tell_item-returns-in_ok-branches-in-Par : goal.tell_item-returns-in_ok-branches-in-Par
tell_item-returns-in_ok-branches-in-Par t c =
    let i = c.args.item.now in
    let view = λ (b : Vec Item Global). items_view b.items in
    let bs = c.deref-in-Par.result.now in
    let seen : item_view i ≡ placed i.spot (text.par (branches_of (map view bs)))
    = of_kind i _ c.in-Par.is ∙ par_seen _ _
    ∙ ap (λ l. placed i.spot (text.par (branches_of (map view l)))) (sym c.deref-in-Par.ensures.value) in
    rw seen (c.fork.ensures _ _ c.in_ok-branches-in-Par.ensures)

pub tell_items-loop-item-preserved : goal.tell_items-loop-item-preserved
tell_items-loop-item-preserved t c =
    items_more _ _ _ c.args.items.now c.loop-item.item-index c.item-item.result c.loop-item.steps.items c.append.new.list.items
    c.in_ok-step.step c.loop-item-test.true c.item-item.is c.in_ok-append.ensures c.in_ok-step.ensures c.loop-item.invariant

pub tell_items-returns : goal.tell_items-returns
tell_items-returns t c =
    items_end _ _ c.args.items.now c.loop-item.item-index c.loop-item.steps.items (omega arith) c.loop-item.invariant

pub tell_branches-loop-branch-preserved : goal.tell_branches-loop-branch-preserved
tell_branches-loop-branch-preserved t c =
    branches_more _ _ _ c.args.branches.now c.loop-branch.branch-index c.branch-item.result c.loop-branch.outlined.items
    c.append.new.list.items c.in_ok-block.block c.loop-branch-test.true c.branch-item.is c.in_ok-append.ensures
    (rw (← c.deref.ensures.value) c.in_ok-block.ensures) c.loop-branch.invariant

pub tell_branches-returns : goal.tell_branches-returns
tell_branches-returns t c =
    branches_end _ _ c.args.branches.now c.loop-branch.branch-index c.loop-branch.outlined.items (omega arith)
    c.loop-branch.invariant
