-- A leaf is one token.
use Rattle.std.proofs.Common.{◌+◌, ◌∷◌, sym, ap, ◌∙◌, subst}
use Rattle.fm_lex.specs.Tokens.{lexeme_of}
use Rattle.fm_grammar.specs.Signs.{tok}
use Rattle.fm_grammar.proofs.Telling.{leaf_of}
use Rattle.fm_grammar.specs.View.{expr_view}
use Rattle.fm_terms.specs.Reader.{first_kind}
use Rattle.fm_terms.specs.Follow.{At}
use Rattle.fm_terms.specs.Drafts.{IsPlain, extended}
use Rattle.fm_terms.proofs.Steps.{passed, lexical_here}
use Rattle.fm_terms.proofs.Insides.{no_factor, takes_factor, stopped}
use Rattle.fm_terms.proofs.expr.read_leaf.Goals as goal

pub returns-in_default-clause-follows : goal.returns-in_default-clause-follows
returns-in_default-clause-follows c = λ F below o a.
    no_factor F _ below _ _ c.peek-token.ensures
    (c.leaf_of.ensures.none c.in_default.is (subst IsPlain (ap first_kind c.peek-token.ensures) c.requires.plain)) a

pub returns-in_err-advance-clause-follows : goal.returns-in_err-advance-clause-follows
returns-in_err-advance-clause-follows c = λ F below o a.
    let e = c.in_err-advance.field-0.0 in
    let is = passed c.from_residual.result e c.from_residual.ensures.1 in
    stopped F below _ e _ is (lexical_here F _ below e _
    (takes_factor F _ below _ _ c.peek-token.ensures c.in-Some.ensures.some.taken a) c.in_err-advance.ensures.fault)

pub returns-clause-text : goal.returns-clause-text
returns-clause-text c =
    let leaf = c.in-Some.ensures.some in
    let l = leaf_of (lexeme_of c.peek-token.result) in
    record {
      form = leaf.form l;
      spells = c.peek-token.ensures ∙ ap (λ y. tok c.peek-token.result.kind l ∷ y) (sym c.in_ok-advance.ensures.ok)
          ∙ sym (leaf.text l c.advance.new.self);
      grows = c.in_ok-push_node.ensures.ok ∙ ap (extended (expr_view c.args.draft.now)) (sym (leaf.nodes l));
    }

pub returns-clause-follows : goal.returns-clause-follows
returns-clause-follows c = λ F below o a.
    subst (λ y. At F (c.args.used + 1) below y) (sym c.in_ok-advance.ensures.ok)
    (takes_factor F _ below _ _ c.peek-token.ensures c.in-Some.ensures.some.taken a)
