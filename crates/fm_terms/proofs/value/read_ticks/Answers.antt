-- A word and a number.
use Rattle.std.proofs.Common.{refl}
use Rattle.fm_grammar.specs.Grammar as forms
use Rattle.fm_terms.proofs.Steps.{passed, handed}
use Rattle.fm_terms.specs.Follow.{leaf_at}
use Rattle.fm_terms.proofs.value.read_ticks.Goals as goal

pub returns-in_err-expect-clause-follows : goal.returns-in_err-expect-clause-follows
returns-in_err-expect-clause-follows c = λ F u below a.
    let e = c.in_err-expect.field-0.0 in
    let is = passed c.from_residual.result e c.from_residual.ensures.1 in
    handed F 0 below _ e _ is (c.in_err-expect.ensures.follows F u _ a)

pub returns-in_err-count-clause-follows : goal.returns-in_err-count-clause-follows
returns-in_err-count-clause-follows c = λ F u below a.
    let e = c.in_err-count.field-0.0 in
    let is = passed c.from_residual-in_err-count.result e c.from_residual-in_err-count.ensures.1 in
    handed F 0 below _ e _ is (c.in_err-count.ensures.follows F 0 _ (c.in_ok-expect.ensures.follows F u _ a))

pub returns-clause-follows : goal.returns-clause-follows
returns-clause-follows c = λ F u below a. c.in_ok-count.ensures.follows F 0 _ (c.in_ok-expect.ensures.follows F u _ a)

pub returns-clause-text : goal.returns-clause-text
returns-clause-text c = record {
  form = forms.ticks (leaf_at c.in_ok-expect.ensures.text.bytes c.in_ok-expect.field-0) c.in_ok-count.ensures.text.form;
  spells = rw (c.in_ok-expect.ensures.text.text, c.in_ok-count.ensures.text.spells) refl;
  stands_for = rw c.in_ok-count.ensures.text.stands_for refl;
}
