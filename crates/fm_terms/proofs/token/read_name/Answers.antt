-- A name is taken, and another token refused.
use Rattle.std.proofs.Common.{ap, sym, subst, ◌∙◌}
use Rattle.fm_grammar.specs.Rules.{kind_code}
use Rattle.fm_terms.specs.Reader.{first_kind}
use Rattle.fm_terms.specs.Follow.{At}
use Rattle.fm_terms.proofs.Steps.{passed, lexical_here, handed, takes_one, refuses_one, kind_there}
use Rattle.fm_terms.proofs.Marks.{named}
use Rattle.fm_grammar.proofs.Telling.{tells_name}
use Rattle.fm_lex.specs.declared.kind.Kind.TheVariants.{Name}
use Rattle.fm_terms.proofs.token.read_name.Goals as goal

pub returns-then-not-next_is-clause-follows : goal.returns-then-not-next_is-clause-follows
returns-then-not-next_is-clause-follows c = λ F u below a.
    refuses_one _ _ c.peek-token.ensures F u Name below
    (λ same. c.next_is.ensures.other c.if-not-next_is.true (ap first_kind c.peek-token.ensures ∙ tells_name _ same)) a

pub returns-in_err-advance-clause-follows : goal.returns-in_err-advance-clause-follows
returns-in_err-advance-clause-follows c = λ F u below a.
    let e = c.in_err-advance.field-0.0 in
    let is = passed c.from_residual.result e c.from_residual.ensures.1 in
    let same = kind_there _ _ _ c.peek-token.ensures (c.next_is.ensures.same c.if-not-next_is.false) in
    handed F 0 below _ e _ is (lexical_here F 0 below e _
    (takes_one _ _ c.peek-token.ensures F u Name below (ap kind_code (sym same)) a) c.in_err-advance.ensures.fault)

pub returns-clause-text : goal.returns-clause-text
returns-clause-text c =
    let same = kind_there _ _ _ c.peek-token.ensures (c.next_is.ensures.same c.if-not-next_is.false) in
    named Name _ _ _ c.peek-token.ensures same c.in_ok-advance.ensures.ok

pub returns-clause-follows : goal.returns-clause-follows
returns-clause-follows c = λ F u below a.
    let same = kind_there _ _ _ c.peek-token.ensures (c.next_is.ensures.same c.if-not-next_is.false) in
    subst (λ y. At F 0 below y) (sym c.in_ok-advance.ensures.ok)
    (takes_one _ _ c.peek-token.ensures F u Name below (ap kind_code (sym same)) a)
