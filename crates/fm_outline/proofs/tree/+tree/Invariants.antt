use Rattle.std.proofs.Common.{◌+◌, ◌*◌}
use Rattle.fm_outline.proofs.TreeLemmas.{ItemsSoFar, BranchesSoFar}
use Rattle.fm_outline.proofs.tree.+tree.Given as goal

-- ---- how deep what is left is

abbrev pub decreases-tell_item : goal.decreases-tell_item
decreases-tell_item l = 3 * goal.size-tell_item l

abbrev pub decreases-tell_items : goal.decreases-tell_items
decreases-tell_items l = 3 * goal.size-tell_items l + 1

abbrev pub decreases-tell_branches : goal.decreases-tell_branches
decreases-tell_branches l = 3 * goal.size-tell_branches l + 2

-- ---- loops

-- with what is made of the statements that are left, this is made of all
abbrev pub invariant-tell_items-loop-item : goal.invariant-tell_items-loop-item
invariant-tell_items-loop-item l = ItemsSoFar l.fn.outliner l.items l.item-index l.steps.items l.outliner

-- the same of branches
abbrev pub invariant-tell_branches-loop-branch : goal.invariant-tell_branches-loop-branch
invariant-tell_branches-loop-branch l =
    BranchesSoFar l.fn.outliner l.branches l.branch-index l.outlined.items l.outliner
