-- The two forms of a pitch.
use Rattle.fm_terms.proofs.Ways.{key_pitch, named_pitch}
use Rattle.fm_terms.proofs.value.read_pitch.Goals as goal

pub returns-then-next_is-clause-follows : goal.returns-then-next_is-clause-follows
returns-then-next_is-clause-follows c = λ F u below a. c.read_key.ensures.follows F u below
    (key_pitch _ c.next_is.ensures.there F u below (c.next_is.ensures.same c.if-next_is.true) a)

pub returns-clause-follows : goal.returns-clause-follows
returns-clause-follows c = λ F u below a. c.read_named.ensures.follows F u below (named_pitch _ c.next_is.ensures.there
    F u below (c.next_is.ensures.other c.if-next_is.false) a)
