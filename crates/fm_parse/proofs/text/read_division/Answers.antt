-- A division, or none.
use Rattle.std.proofs.Common.{Some, refl, sym, ap, ◌∙◌}
use Rattle.fm_grammar.specs.Grammar as forms
use Rattle.fm_parse.proofs.Heads.{as_tested}
use Rattle.fm_grammar.specs.View.{name_view}
use Rattle.fm_parse.specs.Whole.{states}
use Rattle.fm_terms.specs.Follow.{leaf_at}
use Rattle.fm_terms.proofs.Steps.{passed, handed}
use Rattle.fm_parse.proofs.text.read_division.Goals as goal

pub returns-in_err-read_name-clause-follows : goal.returns-in_err-read_name-clause-follows
returns-in_err-read_name-clause-follows c = λ F a.
    let e = c.in_err-read_name.field-0.0 in
    let is = passed c.from_residual.result e c.from_residual.ensures.1 in
    let here = ap (states c.args.version.value) c.peek-next.ensures ∙ sym c.states_division.ensures ∙ c.if-not-states_division.false in
    handed F 0 _ _ e _ is (c.in_err-read_name.ensures.follows F 0 _ (as_tested F _ _ _ here a))

pub returns-in_err-division-clause-follows : goal.returns-in_err-division-clause-follows
returns-in_err-division-clause-follows c = λ F a.
    let e = c.in_err-division.field-0.0 in
    let is = passed c.from_residual-in_err-division.result e c.from_residual-in_err-division.ensures.1 in
    let here = ap (states c.args.version.value) c.peek-next.ensures ∙ sym c.states_division.ensures ∙ c.if-not-states_division.false in
    handed F 0 _ _ e _ is (c.in_err-division.ensures.follows F 0 _ (c.in_ok-read_name.ensures.follows F 0 _
    (as_tested F _ _ _ here a)))

pub returns-in_err-expect-clause-follows : goal.returns-in_err-expect-clause-follows
returns-in_err-expect-clause-follows c = λ F a.
    let e = c.in_err-expect.field-0.0 in
    let is = passed c.from_residual-in_err-expect.result e c.from_residual-in_err-expect.ensures.1 in
    let here = ap (states c.args.version.value) c.peek-next.ensures ∙ sym c.states_division.ensures ∙ c.if-not-states_division.false in
    handed F 0 _ _ e _ is (c.in_err-expect.ensures.follows F 0 _ (c.in_ok-division.ensures.follows F 0 _
    (c.in_ok-read_name.ensures.follows F 0 _ (as_tested F _ _ _ here a))))

pub returns-clause-follows : goal.returns-clause-follows
returns-clause-follows c = λ F a.
    let here = ap (states c.args.version.value) c.peek-next.ensures ∙ sym c.states_division.ensures ∙ c.if-not-states_division.false in
    c.in_ok-expect.ensures.follows F 0 _ (c.in_ok-division.ensures.follows F 0 _
    (c.in_ok-read_name.ensures.follows F 0 _ (as_tested F _ _ _ here a)))

pub returns-clause-text : goal.returns-clause-text
returns-clause-text c = record {
  form = forms.division (name_view c.in_ok-read_name.field-0) c.in_ok-division.ensures.text.form
      (leaf_at c.in_ok-expect.ensures.text.bytes c.in_ok-expect.field-0);
  spells = rw (c.in_ok-read_name.ensures.text, c.in_ok-division.ensures.text.spells, c.in_ok-expect.ensures.text.text)
      refl;
  stands_for = ap Some c.in_ok-division.ensures.text.stands_for;
}

pub returns-then-not-states_division-clause-follows : goal.returns-then-not-states_division-clause-follows
returns-then-not-states_division-clause-follows c = λ F a.
    let none = ap (states c.args.version.value) c.peek-next.ensures ∙ sym c.states_division.ensures ∙ c.if-not-states_division.true in
    as_tested F _ _ _ none a

pub returns-then-not-states_division-clause-text : goal.returns-then-not-states_division-clause-text
returns-then-not-states_division-clause-text c = record { form = forms.no_division; spells = refl; stands_for = refl }
