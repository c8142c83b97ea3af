-- A seed, or none.
use Rattle.std.proofs.Common.{Some, refl, ap}
use Rattle.fm_grammar.specs.Grammar as forms
use Rattle.fm_terms.proofs.Steps.{passed, handed}
use Rattle.fm_terms.proofs.Ways.{at_seed, without_seed}
use Rattle.fm_terms.specs.Follow.{leaf_at}
use Rattle.fm_parse.proofs.text.read_seed.Goals as goal

pub returns-in_err-expect-clause-follows : goal.returns-in_err-expect-clause-follows
returns-in_err-expect-clause-follows c = λ F u below a.
    let e = c.in_err-expect.field-0.0 in
    let is = passed c.from_residual.result e c.from_residual.ensures.1 in
    handed F 0 below _ e _ is (c.in_err-expect.ensures.follows F u _ (at_seed _ c.next_is.ensures.there F u below
    (c.next_is.ensures.same c.if-not-next_is.false) a))

pub returns-in_err-seed-clause-follows : goal.returns-in_err-seed-clause-follows
returns-in_err-seed-clause-follows c = λ F u below a.
    let e = c.in_err-seed.field-0.0 in
    let is = passed c.from_residual-in_err-seed.result e c.from_residual-in_err-seed.ensures.1 in
    handed F 0 below _ e _ is (c.in_err-seed.ensures.follows F 0 _ (c.in_ok-expect.ensures.follows F u _
    (at_seed _ c.next_is.ensures.there F u below (c.next_is.ensures.same c.if-not-next_is.false) a)))

pub returns-in_err-expect-2-clause-follows : goal.returns-in_err-expect-2-clause-follows
returns-in_err-expect-2-clause-follows c = λ F u below a.
    let e = c.in_err-expect-2.field-0.0 in
    let is = passed c.from_residual-in_err-expect-2.result e c.from_residual-in_err-expect-2.ensures.1 in
    handed F 0 below _ e _ is (c.in_err-expect-2.ensures.follows F 0 _ (c.in_ok-seed.ensures.follows F 0 _
    (c.in_ok-expect.ensures.follows F u _ (at_seed _ c.next_is.ensures.there F u below
    (c.next_is.ensures.same c.if-not-next_is.false) a))))

pub returns-clause-follows : goal.returns-clause-follows
returns-clause-follows c = λ F u below a. c.in_ok-expect-2.ensures.follows F 0 _ (c.in_ok-seed.ensures.follows F 0 _
    (c.in_ok-expect.ensures.follows F u _ (at_seed _ c.next_is.ensures.there F u below
    (c.next_is.ensures.same c.if-not-next_is.false) a)))

pub returns-clause-text : goal.returns-clause-text
returns-clause-text c = record {
  form = forms.seed (leaf_at c.in_ok-expect.ensures.text.bytes c.in_ok-expect.field-0) c.in_ok-seed.ensures.text.form
      (leaf_at c.in_ok-expect-2.ensures.text.bytes c.in_ok-expect-2.field-0);
  spells = rw (c.in_ok-expect.ensures.text.text, c.in_ok-seed.ensures.text.spells, c.in_ok-expect-2.ensures.text.text)
      refl;
  stands_for = ap Some c.in_ok-seed.ensures.text.stands_for;
}

pub returns-then-not-next_is-clause-follows : goal.returns-then-not-next_is-clause-follows
returns-then-not-next_is-clause-follows c = λ F u below a. without_seed _ c.next_is.ensures.there F u below
    (c.next_is.ensures.other c.if-not-next_is.true) a

pub returns-then-not-next_is-clause-text : goal.returns-then-not-next_is-clause-text
returns-then-not-next_is-clause-text c = record { form = forms.no_seed; spells = refl; stands_for = refl }
