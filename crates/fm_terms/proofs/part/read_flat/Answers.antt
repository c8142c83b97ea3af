-- A part with one stretch.
use Rattle.std.proofs.Common.{refl}
use Rattle.fm_grammar.specs.Grammar as forms
use Rattle.fm_terms.proofs.Steps.{passed, handed}
use Rattle.fm_terms.specs.Follow.{leaf_at}
use Rattle.fm_terms.proofs.part.read_flat.Goals as goal

pub returns-in_err-expect-clause-follows : goal.returns-in_err-expect-clause-follows
returns-in_err-expect-clause-follows c = λ F u below a.
    let e = c.in_err-expect.field-0.0 in
    let is = passed c.from_residual.result e c.from_residual.ensures.1 in
    handed F 0 below _ e _ is (c.in_err-expect.ensures.follows F u _ a)

pub returns-in_err-length-clause-follows : goal.returns-in_err-length-clause-follows
returns-in_err-length-clause-follows c = λ F u below a.
    let e = c.in_err-length.field-0.0 in
    let is = passed c.from_residual-in_err-length.result e c.from_residual-in_err-length.ensures.1 in
    handed F 0 below _ e _ is (c.in_err-length.ensures.follows F 0 _ (c.in_ok-expect.ensures.follows F u _ a))

pub returns-in_err-by-clause-follows : goal.returns-in_err-by-clause-follows
returns-in_err-by-clause-follows c = λ F u below a.
    let e = c.in_err-by.field-0.0 in
    let is = passed c.from_residual-in_err-by.result e c.from_residual-in_err-by.ensures.1 in
    handed F 0 below _ e _ is (c.in_err-by.ensures.follows F 0 _ (c.in_ok-length.ensures.follows F 0 _
    (c.in_ok-expect.ensures.follows F u _ a)))

pub returns-clause-follows : goal.returns-clause-follows
returns-clause-follows c = λ F u below a. c.in_ok-by.ensures.follows F 0 _ (c.in_ok-length.ensures.follows F 0 _
    (c.in_ok-expect.ensures.follows F u _ a))

pub returns-clause-text : goal.returns-clause-text
returns-clause-text c = record {
  form = forms.flat (leaf_at c.in_ok-expect.ensures.text.bytes c.in_ok-expect.field-0) c.in_ok-length.ensures.text.form
      c.in_ok-by.ensures.text.form.word c.in_ok-by.ensures.text.form.by;
  spells = rw (c.in_ok-expect.ensures.text.text, c.in_ok-length.ensures.text.spells, c.in_ok-by.ensures.text.spells)
      refl;
  stands_for = rw (c.in_ok-length.ensures.text.stands_for, c.in_ok-by.ensures.text.stands_for) refl;
}
