-- The two forms of a count.
use Rattle.fm_terms.proofs.Ways.{drawn_count, fixed_count}
use Rattle.fm_terms.proofs.value.read_count.Goals as goal

pub returns-then-next_is-clause-follows : goal.returns-then-next_is-clause-follows
returns-then-next_is-clause-follows c = λ F u below a. c.read_drawn.ensures.follows F u below
    (drawn_count _ c.next_is.ensures.there F u below (c.next_is.ensures.same c.if-next_is.true) a)

pub returns-clause-follows : goal.returns-clause-follows
returns-clause-follows c = λ F u below a. c.read_fixed.ensures.follows F u below (fixed_count _ c.next_is.ensures.there
    F u below (c.next_is.ensures.other c.if-next_is.false) a)
