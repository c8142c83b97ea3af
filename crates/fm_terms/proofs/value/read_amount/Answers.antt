-- The three forms of an amount.
use Rattle.fm_terms.proofs.Ways.{minus_amount, enclosed_amount, literal_amount}
use Rattle.fm_terms.proofs.value.read_amount.Goals as goal

pub returns-then-next_is-clause-follows : goal.returns-then-next_is-clause-follows
returns-then-next_is-clause-follows c = λ F u below a. c.read_negative.ensures.follows F u below
    (minus_amount _ c.next_is.ensures.there F u below (c.next_is.ensures.same c.if-next_is.true) a)

pub returns-then-next_is-2-clause-follows : goal.returns-then-next_is-2-clause-follows
returns-then-next_is-2-clause-follows c = λ F u below a. c.read_computed.ensures.follows F u below
    (enclosed_amount _ c.next_is.ensures.there F u below (c.next_is-2.ensures.same c.if-next_is-2.true) a)

pub returns-clause-follows : goal.returns-clause-follows
returns-clause-follows c = λ F u below a. c.read_literal.ensures.follows F u below
    (literal_amount _ c.next_is.ensures.there F u below (c.next_is.ensures.other c.if-next_is.false)
    (c.next_is-2.ensures.other c.if-next_is-2.false) a)
