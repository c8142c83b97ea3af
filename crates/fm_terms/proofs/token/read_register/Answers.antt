-- A register is taken, and another token refused.
use Rattle.std.proofs.Common.{ap, sym, subst}
use Rattle.fm_lex.specs.declared.kind.Kind.TheVariants.{Register}
use Rattle.fm_lex.specs.Tokens.{lexeme_of}
use Rattle.fm_grammar.specs.Rules.{kind_code, any_register}
use Rattle.fm_grammar.proofs.Telling.{leaf_of}
use Rattle.fm_terms.specs.Follow.{At}
use Rattle.fm_terms.proofs.Steps.{passed, lexical_here, handed, takes_one, refuses_one}
use Rattle.fm_terms.proofs.Marks.{no_register, named}
use Rattle.fm_terms.proofs.token.read_register.Goals as goal

pub returns-in_default : goal.returns-in_default
returns-in_default c = record {
  text = tt;
  follows = λ F u below a. refuses_one _ _ c.peek-token.ensures F u any_register below
      (no_register _ c.in_default.not-Register) a;
}

pub returns-in_err-advance-clause-follows : goal.returns-in_err-advance-clause-follows
returns-in_err-advance-clause-follows c = λ F u below a.
    let e = c.in_err-advance.field-0.0 in
    let is = passed c.from_residual.result e c.from_residual.ensures.1 in
    handed F 0 below _ e _ is (lexical_here F 0 below e _
    (takes_one _ _ c.peek-token.ensures F u any_register below (ap kind_code (sym c.in-Register.is)) a)
    c.in_err-advance.ensures.fault)

pub returns-clause-text : goal.returns-clause-text
returns-clause-text c = (
  leaf_of (lexeme_of c.peek-token.result),
  named (Register c.in-Register.register) _ _ _ c.peek-token.ensures
      c.in-Register.is c.in_ok-advance.ensures.ok,
)

pub returns-clause-follows : goal.returns-clause-follows
returns-clause-follows c = λ F u below a.
    subst (λ y. At F 0 below y) (sym c.in_ok-advance.ensures.ok)
    (takes_one _ _ c.peek-token.ensures F u any_register below (ap kind_code (sym c.in-Register.is)) a)
