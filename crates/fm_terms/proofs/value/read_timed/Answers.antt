-- A word and a count.
use Rattle.std.proofs.Common.{◌∙◌}
use Rattle.fm_terms.proofs.Steps.{passed, handed}
use Rattle.fm_terms.proofs.CountForms.{timed_form, timed_spells, timed_stands}
use Rattle.fm_terms.specs.Follow.{leaf_at}
use Rattle.fm_terms.proofs.value.read_timed.Goals as goal

pub returns-in_err-expect-clause-follows : goal.returns-in_err-expect-clause-follows
returns-in_err-expect-clause-follows c = λ F u below a.
    let e = c.in_err-expect.field-0.0 in
    let is = passed c.from_residual.result e c.from_residual.ensures.1 in
    handed F 0 below _ e _ is (c.in_err-expect.ensures.follows F u _ a)

pub returns-in_err-ticks-clause-follows : goal.returns-in_err-ticks-clause-follows
returns-in_err-ticks-clause-follows c = λ F u below a.
    let e = c.in_err-ticks.field-0.0 in
    let is = passed c.from_residual-in_err-ticks.result e c.from_residual-in_err-ticks.ensures.1 in
    handed F 0 below _ e _ is (c.in_err-ticks.ensures.follows F 0 _ (c.in_ok-expect.ensures.follows F u _ a))

pub returns-clause-follows : goal.returns-clause-follows
returns-clause-follows c = λ F u below a. c.in_ok-ticks.ensures.follows F 0 _ (c.in_ok-expect.ensures.follows F u _ a)

pub returns-clause-text : goal.returns-clause-text
returns-clause-text c = record {
  form = timed_form (leaf_at c.in_ok-expect.ensures.text.bytes c.in_ok-expect.field-0) c.in_ok-ticks.ensures.text.form;
  spells = c.in_ok-expect.ensures.text.text ∙ timed_spells _ _ _ _ c.in_ok-ticks.ensures.text.spells;
  stands_for = c.duration_of.ensures ∙ timed_stands _ _ _ c.in_ok-ticks.ensures.text.stands_for;
}
