-- Before a token outside of it nothing is owed.
use Rattle.std.proofs.Common.{◌∷◌, refl, arith}
use Rattle.fm_grammar.specs.Rules.{one}
use Rattle.fm_terms.proofs.Steps.{passed, handed, outer_zero}
use Rattle.fm_terms.proofs.Insides.{owes_none}
use Rattle.fm_terms.proofs.expr.read_expr.Goals as goal

pub returns-in_err-read_inner-clause-follows : goal.returns-in_err-read_inner-clause-follows
returns-in_err-read_inner-clause-follows c = λ F k below a.
    let e = c.in_err-read_inner.field-0.0 in
    let is = passed c.from_residual.result e c.from_residual.ensures.1 in
    handed F 0 (one k ∷ below) _ e _ is (c.in_err-read_inner.ensures.follows F (one k ∷ below) (owes_none k below
    (omega (arith, a.tokens))) a)

pub returns-clause-follows : goal.returns-clause-follows
returns-clause-follows c = λ F k below a.
    outer_zero F _ (one k) below _ refl (c.in_ok-read_inner.ensures.follows F (one k ∷ below) (owes_none k below
    (omega (arith, a.tokens))) a)
