-- A number of ticks, or a share.
use Rattle.fm_terms.proofs.Ways.{ticks_length, share_length}
use Rattle.fm_terms.proofs.value.read_length.Goals as goal

pub returns-then-next_is-clause-follows : goal.returns-then-next_is-clause-follows
returns-then-next_is-clause-follows c = λ F u below a. c.read_ticks.ensures.follows F u below
    (ticks_length _ c.next_is.ensures.there F u below (c.next_is.ensures.same c.if-next_is.true) a)

pub returns-clause-follows : goal.returns-clause-follows
returns-clause-follows c = λ F u below a. c.read_share.ensures.follows F u below (share_length _ c.next_is.ensures.there
    F u below (c.next_is.ensures.other c.if-next_is.false) a)
