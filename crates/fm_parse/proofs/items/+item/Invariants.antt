use Rattle.std.proofs.Common.{◌-◌, ◌+◌, ◌*◌, length}
use Rattle.fm_parse.proofs.Bodies.{Stating, Branching}
use Rattle.fm_parse.proofs.items.+item.Given as goal

abbrev pub decreases-read_block : goal.decreases-read_block
decreases-read_block g l = 20 * (64 - l.depth) + 0

abbrev pub decreases-read_else : goal.decreases-read_else
decreases-read_else g l = 20 * (64 - l.depth) + 1

abbrev pub decreases-read_if : goal.decreases-read_if
decreases-read_if g l = 20 * (64 - l.depth) + 2

abbrev pub decreases-read_opened : goal.decreases-read_opened
decreases-read_opened g l = 20 * (64 - l.depth) + 2

abbrev pub decreases-read_branches : goal.decreases-read_branches
decreases-read_branches g l = 20 * (64 - l.depth) + 1

abbrev pub decreases-read_par : goal.decreases-read_par
decreases-read_par g l = 20 * (64 - l.depth) + 2

abbrev pub decreases-read_worded : goal.decreases-read_worded
decreases-read_worded g l = 20 * (64 - l.depth) + 3

abbrev pub decreases-read_statement : goal.decreases-read_statement
decreases-read_statement g l = 20 * (64 - l.depth) + 4

abbrev pub decreases-read_statements : goal.decreases-read_statements
decreases-read_statements g l = 20 * (64 - l.depth) + 5

abbrev pub invariant-read_branches-loop-alloc : goal.invariant-read_branches-loop-alloc
invariant-read_branches-loop-alloc g l =
    let w = g.W.Reading in
    Branching w.is_made (w.told l.fn.w) l.list.items (w.told l.w) (w.left l.fn.w) (w.left l.w) l.depth

abbrev pub decreases-read_branches-loop-alloc : goal.decreases-read_branches-loop-alloc
decreases-read_branches-loop-alloc g l = length (g.W.Reading.left l.w)

abbrev pub invariant-read_statements-loop-word : goal.invariant-read_statements-loop-word
invariant-read_statements-loop-word g l =
    let w = g.W.Reading in
    Stating w.is_made (w.told l.fn.w) l.items.items (w.told l.w) (w.left l.fn.w) (w.left l.w) l.depth

abbrev pub decreases-read_statements-loop-word : goal.decreases-read_statements-loop-word
decreases-read_statements-loop-word g l = length (g.W.Reading.left l.w)
