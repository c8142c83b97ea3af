-- An expression in parentheses, and its greatest value.
use Rattle.std.proofs.Common.{refl}
use Rattle.fm_grammar.specs.Signs.{close_parenthesis}
use Rattle.fm_terms.proofs.Steps.{passed, handed}
use Rattle.fm_terms.specs.Counts.{drawn}
use Rattle.fm_terms.specs.Follow.{leaf_at}
use Rattle.fm_terms.proofs.value.read_drawn.Goals as goal

pub returns-in_err-expect-clause-follows : goal.returns-in_err-expect-clause-follows
returns-in_err-expect-clause-follows c = λ F u below a.
    let e = c.in_err-expect.field-0.0 in
    let is = passed c.from_residual.result e c.from_residual.ensures.1 in
    handed F 0 below _ e _ is (c.in_err-expect.ensures.follows F u _ a)

pub returns-in_err-value-clause-follows : goal.returns-in_err-value-clause-follows
returns-in_err-value-clause-follows c = λ F u below a.
    let e = c.in_err-value.field-0.0 in
    let is = passed c.from_residual-in_err-value.result e c.from_residual-in_err-value.ensures.1 in
    handed F 0 below _ e _ is (c.in_err-value.ensures.follows F close_parenthesis _
    (c.in_ok-expect.ensures.follows F u _ a))

pub returns-in_err-expect-2-clause-follows : goal.returns-in_err-expect-2-clause-follows
returns-in_err-expect-2-clause-follows c = λ F u below a.
    let e = c.in_err-expect-2.field-0.0 in
    let is = passed c.from_residual-in_err-expect-2.result e c.from_residual-in_err-expect-2.ensures.1 in
    handed F 0 below _ e _ is (c.in_err-expect-2.ensures.follows F 0 _ (c.in_ok-value.ensures.follows F
    close_parenthesis _ (c.in_ok-expect.ensures.follows F u _ a)))

pub returns-in_err-expect-3-clause-follows : goal.returns-in_err-expect-3-clause-follows
returns-in_err-expect-3-clause-follows c = λ F u below a.
    let e = c.in_err-expect-3.field-0.0 in
    let is = passed c.from_residual-in_err-expect-3.result e c.from_residual-in_err-expect-3.ensures.1 in
    handed F 0 below _ e _ is (c.in_err-expect-3.ensures.follows F 0 _ (c.in_ok-expect-2.ensures.follows F 0 _
    (c.in_ok-value.ensures.follows F close_parenthesis _ (c.in_ok-expect.ensures.follows F u _ a))))

pub returns-in_err-most-clause-follows : goal.returns-in_err-most-clause-follows
returns-in_err-most-clause-follows c = λ F u below a.
    let e = c.in_err-most.field-0.0 in
    let is = passed c.from_residual-in_err-most.result e c.from_residual-in_err-most.ensures.1 in
    handed F 0 below _ e _ is (c.in_err-most.ensures.follows F 0 _ (c.in_ok-expect-3.ensures.follows F 0 _
    (c.in_ok-expect-2.ensures.follows F 0 _ (c.in_ok-value.ensures.follows F close_parenthesis _
    (c.in_ok-expect.ensures.follows F u _ a)))))

pub returns-clause-follows : goal.returns-clause-follows
returns-clause-follows c = λ F u below a. c.in_ok-most.ensures.follows F 0 _ (c.in_ok-expect-3.ensures.follows F 0 _
    (c.in_ok-expect-2.ensures.follows F 0 _ (c.in_ok-value.ensures.follows F close_parenthesis _
    (c.in_ok-expect.ensures.follows F u _ a))))

pub returns-clause-text : goal.returns-clause-text
returns-clause-text c = record {
  form = drawn (leaf_at c.in_ok-expect.ensures.text.bytes c.in_ok-expect.field-0) c.in_ok-value.ensures.text.form
      (leaf_at c.in_ok-expect-2.ensures.text.bytes c.in_ok-expect-2.field-0)
      (leaf_at c.in_ok-expect-3.ensures.text.bytes c.in_ok-expect-3.field-0) c.in_ok-most.ensures.text.form;
  spells = rw (
    c.in_ok-expect.ensures.text.text,
    c.in_ok-value.ensures.text.spells,
    c.in_ok-expect-2.ensures.text.text,
    c.in_ok-expect-3.ensures.text.text,
    c.in_ok-most.ensures.text.spells,
  ) refl;
  stands_for = rw (c.in_ok-value.ensures.text.stands_for, c.in_ok-most.ensures.text.stands_for) refl;
}
