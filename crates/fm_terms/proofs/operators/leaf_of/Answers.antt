-- The three leaves of an expression.
use Rattle.std.proofs.Common.{◌≡◌, ℕ, ◌∷◌, None, refl, sym, ap, arith}
use Rattle.std.specs.Prelude.{◌≢◌}
use Rattle.std.proofs.lemmas.Bool.Decides.{nat_tests}
use Rattle.fm_lex.specs.declared.kind.Kind.{Kind}
use Rattle.fm_lex.specs.declared.kind.Kind.TheVariants.{Name, Number, Pitch, Register, Index, Symbol, End}
use Rattle.fm_lex.specs.declared.kind.Kind.TheVariants as kinds
use Rattle.fm_grammar.specs.Grammar.{register, index}
use Rattle.fm_grammar.specs.Grammar as forms
use Rattle.fm_grammar.specs.Signs.{tok}
use Rattle.fm_grammar.specs.Rules.{kind_code, rules_of, factor}
use Rattle.fm_grammar.specs.Table.{taking}
use Rattle.fm_terms.specs.Drafts.{IsPlain}
use Rattle.fm_terms.proofs.operators.leaf_of.Goals as goal

-- no other kind is a leaf
no_leaf : (k : Kind) → ((n : ℕ) → k ≢ Number n) → ((r : ℕ) → k ≢ Register r) → ((i : ℕ) → k ≢ Index i) → IsPlain k
    → taking (kind_code k) (rules_of factor) ≡ None
no_leaf Name n r i plain = refl
no_leaf (Number v) n r i plain = absurd (n v refl)
no_leaf (Pitch v) n r i plain = refl
no_leaf (Register v) n r i plain = absurd (r v refl)
no_leaf (Index v) n r i plain = absurd (i v refl)
no_leaf End n r i plain = refl
no_leaf (Symbol b) n r i plain = grind (arith, nat_tests)
no_leaf (kinds.Keyword w) n r i plain = absurd plain

pub returns-in-Number-clause-some : goal.returns-in-Number-clause-some
returns-in-Number-clause-some c = record {
  form = λ l. forms.FactorForm.number (record { value = c.in-Number.value; leaf = l });
  text = λ l next. ap (λ k. tok k l ∷ next) (sym c.in-Number.is);
  nodes = λ l. refl;
  taken = ap (λ k. taking (kind_code k) (rules_of factor)) c.in-Number.is;
}

pub returns-in-Number-clause-none : goal.returns-in-Number-clause-none
returns-in-Number-clause-none c = λ is plain. absurd (cc is)

pub returns-in-Register-clause-some : goal.returns-in-Register-clause-some
returns-in-Register-clause-some c = record {
  form = λ l. register c.in-Register.register l;
  text = λ l next. ap (λ k. tok k l ∷ next) (sym c.in-Register.is);
  nodes = λ l. refl;
  taken = ap (λ k. taking (kind_code k) (rules_of factor)) c.in-Register.is;
}

pub returns-in-Register-clause-none : goal.returns-in-Register-clause-none
returns-in-Register-clause-none c = λ is plain. absurd (cc is)

pub returns-in-Index-clause-some : goal.returns-in-Index-clause-some
returns-in-Index-clause-some c = record {
  form = λ l. index c.in-Index.index l;
  text = λ l next. ap (λ k. tok k l ∷ next) (sym c.in-Index.is);
  nodes = λ l. refl;
  taken = ap (λ k. taking (kind_code k) (rules_of factor)) c.in-Index.is;
}

pub returns-in-Index-clause-none : goal.returns-in-Index-clause-none
returns-in-Index-clause-none c = λ is plain. absurd (cc is)

pub returns-in_default-clause-none : goal.returns-in_default-clause-none
returns-in_default-clause-none c = λ is plain.
    no_leaf c.args.kind c.in_default.not-Number c.in_default.not-Register c.in_default.not-Index plain
