-- The token of the kind is taken, and another one refused.
use Rattle.std.proofs.Common.{◌+◌, ap, sym, subst, ◌∙◌}
use Rattle.fm_grammar.specs.Rules.{kind_code}
use Rattle.fm_terms.specs.Reader.{first_kind}
use Rattle.fm_terms.specs.Follow.{At}
use Rattle.fm_terms.proofs.Steps.{passed, lexical_here, handed, takes_one, takes_inner, refuses_one, refuses_inner, kind_there}
use Rattle.fm_terms.proofs.Marks.{mark_tells, marked}
use Rattle.fm_terms.proofs.token.expect.Goals as goal

pub returns-then-not-next_is-clause-follows : goal.returns-then-not-next_is-clause-follows
returns-then-not-next_is-clause-follows c = λ F u below a.
    refuses_one _ _ c.peek.ensures F u c.args.kind below
    (λ same. c.next_is.ensures.other c.if-not-next_is.true (ap first_kind c.peek.ensures ∙ mark_tells c.args.kind
    c.requires _ same)) a

pub returns-then-not-next_is-clause-inside : goal.returns-then-not-next_is-clause-inside
returns-then-not-next_is-clause-inside c = λ F u below a.
    refuses_inner _ _ c.peek.ensures F u c.args.kind below
    (λ same. c.next_is.ensures.other c.if-not-next_is.true (ap first_kind c.peek.ensures ∙ mark_tells c.args.kind
    c.requires _ same)) a

pub returns-in_err-advance-clause-follows : goal.returns-in_err-advance-clause-follows
returns-in_err-advance-clause-follows c = λ F u below a.
    let e = c.in_err-advance.field-0.0 in
    let is = passed c.from_residual.result e c.from_residual.ensures.1 in
    let same = kind_there _ _ _ c.peek.ensures (c.next_is.ensures.same c.if-not-next_is.false) in
    handed F 0 below _ e _ is (lexical_here F 0 below e _
    (takes_one _ _ c.peek.ensures F u c.args.kind below (ap kind_code (sym same)) a) c.in_err-advance.ensures.fault)

pub returns-in_err-advance-clause-inside : goal.returns-in_err-advance-clause-inside
returns-in_err-advance-clause-inside c = λ F u below a.
    let e = c.in_err-advance.field-0.0 in
    let is = passed c.from_residual.result e c.from_residual.ensures.1 in
    let same = kind_there _ _ _ c.peek.ensures (c.next_is.ensures.same c.if-not-next_is.false) in
    handed F _ below _ e _ is (lexical_here F _ below e _
    (takes_inner _ _ c.peek.ensures F u c.args.kind below (ap kind_code (sym same)) a) c.in_err-advance.ensures.fault)

pub returns-clause-text : goal.returns-clause-text
returns-clause-text c =
    let same = kind_there _ _ _ c.peek.ensures (c.next_is.ensures.same c.if-not-next_is.false) in
    marked c.args.kind _ _ _ c.peek.ensures same c.in_ok-advance.ensures.ok

pub returns-clause-follows : goal.returns-clause-follows
returns-clause-follows c = λ F u below a.
    let same = kind_there _ _ _ c.peek.ensures (c.next_is.ensures.same c.if-not-next_is.false) in
    subst (λ y. At F 0 below y) (sym c.in_ok-advance.ensures.ok)
    (takes_one _ _ c.peek.ensures F u c.args.kind below (ap kind_code (sym same)) a)

pub returns-clause-inside : goal.returns-clause-inside
returns-clause-inside c = λ F u below a.
    let same = kind_there _ _ _ c.peek.ensures (c.next_is.ensures.same c.if-not-next_is.false) in
    subst (λ y. At F (u + 1) below y) (sym c.in_ok-advance.ensures.ok)
    (takes_inner _ _ c.peek.ensures F u c.args.kind below (ap kind_code (sym same)) a)
