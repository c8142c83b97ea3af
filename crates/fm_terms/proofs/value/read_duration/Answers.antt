-- The two forms of a duration.
use Rattle.fm_terms.proofs.Ways.{timed_duration, shared_duration}
use Rattle.fm_terms.proofs.value.read_duration.Goals as goal

pub returns-then-next_is-clause-follows : goal.returns-then-next_is-clause-follows
returns-then-next_is-clause-follows c = λ F u below a. c.read_timed.ensures.follows F u below
    (timed_duration _ c.next_is.ensures.there F u below (c.next_is.ensures.same c.if-next_is.true) a)

pub returns-clause-follows : goal.returns-clause-follows
returns-clause-follows c = λ F u below a. c.read_shared.ensures.follows F u below
    (shared_duration _ c.next_is.ensures.there F u below (c.next_is.ensures.other c.if-next_is.false) a)
