-- A definition of a phrase.
use Rattle.std.proofs.Common.{◌∷◌, refl}
use Rattle.fm_grammar.specs.Grammar as forms
use Rattle.fm_grammar.specs.View.{name_view}
use Rattle.fm_parse.proofs.EntryLists.{entry_stopped}
use Rattle.fm_grammar.specs.Rules.{entries}
use Rattle.fm_terms.specs.Follow.{leaf_at}
use Rattle.fm_terms.proofs.Steps.{passed}
use Rattle.fm_parse.proofs.entries.read_phrase.Goals as goal

pub returns-in_err-expect-clause-follows : goal.returns-in_err-expect-clause-follows
returns-in_err-expect-clause-follows g c = λ F u below d a.
    let e = c.in_err-expect.field-0.0 in
    let is = passed c.from_residual.result e c.from_residual.ensures.1 in
    entry_stopped F below _ e _ is (c.in_err-expect.ensures.follows F u _ a)

pub returns-in_err-name-clause-follows : goal.returns-in_err-name-clause-follows
returns-in_err-name-clause-follows g c = λ F u below d a.
    let e = c.in_err-name.field-0.0 in
    let is = passed c.from_residual-in_err-name.result e c.from_residual-in_err-name.ensures.1 in
    entry_stopped F below _ e _ is (c.in_err-name.ensures.follows F 0 _ (c.in_ok-expect.ensures.follows F u _ a))

pub returns-in_err-body-clause-follows : goal.returns-in_err-body-clause-follows
returns-in_err-body-clause-follows g c = λ F u below d a.
    let e = c.in_err-body.field-0.0 in
    let is = passed c.from_residual-in_err-body.result e c.from_residual-in_err-body.ensures.1 in
    entry_stopped F below _ e _ is (c.in_err-body.ensures.follows F 0 (entries ∷ below) d (c.in_ok-name.ensures.follows
    F 0 _ (c.in_ok-expect.ensures.follows F u _ a)))

pub returns-clause-follows : goal.returns-clause-follows
returns-clause-follows g c = λ F u below d a. c.in_ok-body.ensures.follows F 0 (entries ∷ below) d
    (c.in_ok-name.ensures.follows F 0 _ (c.in_ok-expect.ensures.follows F u _ a))

pub returns-clause-text : goal.returns-clause-text
returns-clause-text g c = record {
  form = forms.EntryForm.phrase (leaf_at c.in_ok-expect.ensures.text.bytes c.in_ok-expect.field-0)
      (name_view c.in_ok-name.name) c.in_ok-body.ensures.text.form;
  spells = rw (c.in_ok-expect.ensures.text.text, c.in_ok-name.ensures.text, c.in_ok-body.ensures.text.spells) refl;
  told = c.phrase.ensures _ _ _ c.name.ensures c.in_ok-body.ensures.text.made;
}
