-- A share of a whole note.
use Rattle.std.proofs.Common.{ap}
use Rattle.fm_grammar.specs.Grammar as forms
use Rattle.fm_terms.proofs.Steps.{passed, handed}
use Rattle.fm_grammar.specs.Score as tree
use Rattle.fm_terms.proofs.value.read_shared.Goals as goal

pub returns-in_err-length-clause-follows : goal.returns-in_err-length-clause-follows
returns-in_err-length-clause-follows c = λ F u below a.
    let e = c.in_err-length.field-0.0 in
    let is = passed c.from_residual.result e c.from_residual.ensures.1 in
    handed F 0 below _ e _ is (c.in_err-length.ensures.follows F u _ a)

pub returns-clause-follows : goal.returns-clause-follows
returns-clause-follows c = λ F u below a. c.in_ok-length.ensures.follows F u _ a

pub returns-clause-text : goal.returns-clause-text
returns-clause-text c = record {
  form = forms.fixed c.in_ok-length.ensures.text.form;
  spells = c.in_ok-length.ensures.text.spells;
  stands_for = ap tree.fixed c.in_ok-length.ensures.text.stands_for;
}
