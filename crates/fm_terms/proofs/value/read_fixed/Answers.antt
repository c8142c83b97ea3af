-- A number.
use Rattle.std.proofs.Common.{refl}
use Rattle.fm_terms.proofs.Steps.{passed, handed}
use Rattle.fm_terms.specs.Counts.{fixed}
use Rattle.fm_terms.proofs.value.read_fixed.Goals as goal

pub returns-in_err-number-clause-follows : goal.returns-in_err-number-clause-follows
returns-in_err-number-clause-follows c = λ F u below a.
    let e = c.in_err-number.field-0.0 in
    let is = passed c.from_residual.result e c.from_residual.ensures.1 in
    handed F 0 below _ e _ is (c.in_err-number.ensures.follows F u _ a)

pub returns-clause-follows : goal.returns-clause-follows
returns-clause-follows c = λ F u below a. c.in_ok-number.ensures.follows F u _ a

pub returns-clause-text : goal.returns-clause-text
returns-clause-text c = record {
  form = fixed c.in_ok-number.ensures.text.form;
  spells = c.in_ok-number.ensures.text.spells;
  stands_for = rw c.in_ok-number.ensures.text.stands_for refl;
}
