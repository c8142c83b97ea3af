-- The four forms of a part.
use Rattle.fm_terms.proofs.Ways.{flat_part, slope_part, pause_part, breath_part}
use Rattle.fm_terms.proofs.part.read_part.Goals as goal

pub returns-then-next_is-clause-follows : goal.returns-then-next_is-clause-follows
returns-then-next_is-clause-follows c = λ F u below a. c.read_flat.ensures.follows F u below
    (flat_part _ c.next_is.ensures.there F u below (c.next_is.ensures.same c.if-next_is.true) a)

pub returns-then-next_is-2-clause-follows : goal.returns-then-next_is-2-clause-follows
returns-then-next_is-2-clause-follows c = λ F u below a. c.read_slope.ensures.follows F u below
    (slope_part _ c.next_is.ensures.there F u below (c.next_is-2.ensures.same c.if-next_is-2.true) a)

pub returns-then-next_is-3-clause-follows : goal.returns-then-next_is-3-clause-follows
returns-then-next_is-3-clause-follows c = λ F u below a. c.read_pause.ensures.follows F u below
    (pause_part _ c.next_is.ensures.there F u below (c.next_is-3.ensures.same c.if-next_is-3.true) a)

pub returns-clause-follows : goal.returns-clause-follows
returns-clause-follows c = λ F u below a. c.read_breath.ensures.follows F u below (breath_part _ c.next_is.ensures.there
    F u below (c.next_is.ensures.other c.if-next_is.false) (c.next_is-2.ensures.other c.if-next_is-2.false)
    (c.next_is-3.ensures.other c.if-next_is-3.false) a)
