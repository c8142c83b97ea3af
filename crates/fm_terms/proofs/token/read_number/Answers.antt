-- A number is taken, and another token refused.
use Rattle.std.proofs.Common.{ap, sym, subst, refl}
use Rattle.fm_lex.specs.declared.kind.Kind.TheVariants.{Number}
use Rattle.fm_grammar.specs.Rules.{kind_code, any_number}
use Rattle.fm_terms.specs.Follow.{At, leaf_at}
use Rattle.fm_terms.proofs.Steps.{passed, lexical_here, handed, takes_one, refuses_one}
use Rattle.fm_terms.proofs.Marks.{no_number, marked}
use Rattle.fm_terms.proofs.token.read_number.Goals as goal

pub returns-in_default : goal.returns-in_default
returns-in_default c = record {
  text = tt;
  follows = λ F u below a. refuses_one _ _ c.peek-token.ensures F u any_number below
      (no_number _ c.in_default.not-Number) a;
}

pub returns-in_err-advance-clause-follows : goal.returns-in_err-advance-clause-follows
returns-in_err-advance-clause-follows c = λ F u below a.
    let e = c.in_err-advance.field-0.0 in
    let is = passed c.from_residual.result e c.from_residual.ensures.1 in
    handed F 0 below _ e _ is (lexical_here F 0 below e _
    (takes_one _ _ c.peek-token.ensures F u any_number below (ap kind_code (sym c.in-Number.is)) a)
    c.in_err-advance.ensures.fault)

pub returns-clause-text : goal.returns-clause-text
returns-clause-text c =
    let was = marked (Number c.in-Number.value) _ _ _ c.peek-token.ensures c.in-Number.is c.in_ok-advance.ensures.ok in
    record {
      form = record { value = c.in-Number.value; leaf = leaf_at was.bytes c.peek-token.result.spot };
      spells = was.text;
      stands_for = refl;
    }

pub returns-clause-follows : goal.returns-clause-follows
returns-clause-follows c = λ F u below a.
    subst (λ y. At F 0 below y) (sym c.in_ok-advance.ensures.ok)
    (takes_one _ _ c.peek-token.ensures F u any_number below (ap kind_code (sym c.in-Number.is)) a)
