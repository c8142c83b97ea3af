-- Which entry begins.
use Rattle.std.proofs.Common.{sym, ap, ◌∙◌}
use Rattle.fm_parse.specs.Statements.{starter}
use Rattle.fm_parse.proofs.EntryLists.{at_shape, at_phrase, ends_entries}
use Rattle.fm_parse.proofs.entries.read_entry.Goals as goal

pub returns-then-next_is-clause-follows : goal.returns-then-next_is-clause-follows
returns-then-next_is-clause-follows g c = λ F u below d a.
    c.read_shape.ensures.follows F u below (at_shape _ c.next_is.ensures.there F u below
    (c.next_is.ensures.same c.if-next_is.true) a)

pub returns-then-next_is-2-clause-follows : goal.returns-then-next_is-2-clause-follows
returns-then-next_is-2-clause-follows g c = λ F u below d a.
    c.read_phrase.ensures.follows F u below d (at_phrase _ c.next_is.ensures.there F u below (c.next_is-2.ensures.same
    c.if-next_is-2.true) d a)

pub returns-in-None-clause-follows : goal.returns-in-None-clause-follows
returns-in-None-clause-follows g c = λ F u below d a.
    ends_entries _ c.next_is.ensures.there F u below (sym (ap starter c.kind.ensures.is) ∙ c.starter_of.ensures.none
    c.in-None.is)
    (c.next_is.ensures.other c.if-next_is.false) (c.next_is-2.ensures.other c.if-next_is-2.false) a
