-- A minus and a number.
use Rattle.std.proofs.Common.{refl, ap, ◌∙◌}
use Rattle.fm_grammar.specs.Grammar as forms
use Rattle.std.specs.Prelude.{pos, ◌-ℤ◌}
use Rattle.fm_grammar.specs.declared.number.Number.{Number}
use Rattle.fm_grammar.specs.Score as tree
use Rattle.fm_terms.proofs.Steps.{passed, handed}
use Rattle.fm_terms.specs.Follow.{leaf_at}
use Rattle.fm_terms.proofs.value.read_negative.Goals as goal

pub returns-in_err-spot-clause-follows : goal.returns-in_err-spot-clause-follows
returns-in_err-spot-clause-follows c = λ F u below a.
    let e = c.in_err-spot.field-0.0 in
    let is = passed c.from_residual.result e c.from_residual.ensures.1 in
    handed F 0 below _ e _ is (c.in_err-spot.ensures.follows F u _ a)

pub returns-in_err-number-clause-follows : goal.returns-in_err-number-clause-follows
returns-in_err-number-clause-follows c = λ F u below a.
    let e = c.in_err-number.field-0.0 in
    let is = passed c.from_residual-in_err-number.result e c.from_residual-in_err-number.ensures.1 in
    handed F 0 below _ e _ is (c.in_err-number.ensures.follows F 0 _ (c.in_ok-spot.ensures.follows F u _ a))

pub returns-clause-follows : goal.returns-clause-follows
returns-clause-follows c = λ F u below a. c.in_ok-number.ensures.follows F 0 _ (c.in_ok-spot.ensures.follows F u _ a)

pub returns-clause-text : goal.returns-clause-text
returns-clause-text c = record {
  form = forms.negative (leaf_at c.in_ok-spot.ensures.text.bytes c.in_ok-spot.spot) c.in_ok-number.ensures.text.form;
  spells = rw (c.in_ok-spot.ensures.text.text, c.in_ok-number.ensures.text.spells) refl;
  stands_for = c.negative_of.ensures ∙ ap (λ (m : Number). tree.literal (pos 0 -ℤ pos m.value) c.in_ok-spot.spot)
      c.in_ok-number.ensures.text.stands_for;
}
