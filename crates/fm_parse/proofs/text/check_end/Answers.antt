-- The end, and nothing else.
use Rattle.std.proofs.Common.{[], ap, ◌∙◌}
use Rattle.fm_lex.specs.declared.kind.Kind.TheVariants as kinds
use Rattle.fm_grammar.proofs.Telling.{tells_end}
use Rattle.fm_terms.specs.Reader.{first_kind}
use Rattle.fm_terms.proofs.Steps.{refuses_one}
use Rattle.fm_parse.proofs.Verdicts.{at_end}
use Rattle.fm_parse.proofs.text.check_end.Goals as goal

pub returns-then-next_is-clause-text : goal.returns-then-next_is-clause-text
returns-then-next_is-clause-text c = c.at_end.ensures (c.next_is.ensures.same c.if-next_is.true)

pub returns-then-next_is-clause-follows : goal.returns-then-next_is-clause-follows
returns-then-next_is-clause-follows c = λ F u a.
    let over = c.at_end.ensures (c.next_is.ensures.same c.if-next_is.true) in
    at_end F u _ over.0 over.1 a

pub returns-else-next_is-clause-follows : goal.returns-else-next_is-clause-follows
returns-else-next_is-clause-follows c = λ F u a.
    refuses_one _ _ c.peek.ensures F u kinds.End []
    (λ same. c.next_is.ensures.other c.if-next_is.false (ap first_kind c.peek.ensures ∙ tells_end _ same)) a
