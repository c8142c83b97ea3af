-- A number.
use Rattle.std.proofs.Common.{ap, ◌∙◌}
use Rattle.fm_grammar.specs.Grammar as forms
use Rattle.std.specs.Prelude.{pos}
use Rattle.fm_grammar.specs.declared.number.Number.{Number}
use Rattle.fm_grammar.specs.Score as tree
use Rattle.fm_terms.proofs.Steps.{passed, handed}
use Rattle.fm_terms.proofs.value.read_literal.Goals as goal

pub returns-in_err-number-clause-follows : goal.returns-in_err-number-clause-follows
returns-in_err-number-clause-follows c = λ F u below a.
    let e = c.in_err-number.field-0.0 in
    let is = passed c.from_residual.result e c.from_residual.ensures.1 in
    handed F 0 below _ e _ is (c.in_err-number.ensures.follows F u _ a)

pub returns-clause-follows : goal.returns-clause-follows
returns-clause-follows c = λ F u below a. c.in_ok-number.ensures.follows F u _ a

pub returns-clause-text : goal.returns-clause-text
returns-clause-text c = record {
  form = forms.AmountForm.number c.in_ok-number.ensures.text.form;
  spells = c.in_ok-number.ensures.text.spells;
  stands_for = c.literal_of.ensures ∙ ap (λ (m : Number). tree.literal (pos m.value) m.spot)
      c.in_ok-number.ensures.text.stands_for;
}
