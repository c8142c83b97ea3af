-- A definition of a shape.
use Rattle.std.proofs.Common.{refl, subst}
use Rattle.fm_grammar.specs.Grammar as forms
use Rattle.fm_grammar.specs.Score as tree
use Rattle.fm_grammar.specs.View.{name_view}
use Rattle.fm_parse.proofs.EntryLists.{entry_stopped}
use Rattle.fm_terms.specs.Follow.{leaf_at}
use Rattle.fm_terms.proofs.Steps.{passed}
use Rattle.fm_parse.proofs.entries.read_shape.Goals as goal

pub returns-in_err-expect-clause-follows : goal.returns-in_err-expect-clause-follows
returns-in_err-expect-clause-follows g c = λ F u below a.
    let e = c.in_err-expect.field-0.0 in
    let is = passed c.from_residual.result e c.from_residual.ensures.1 in
    entry_stopped F below _ e _ is (c.in_err-expect.ensures.follows F u _ a)

pub returns-in_err-name-clause-follows : goal.returns-in_err-name-clause-follows
returns-in_err-name-clause-follows g c = λ F u below a.
    let e = c.in_err-name.field-0.0 in
    let is = passed c.from_residual-in_err-name.result e c.from_residual-in_err-name.ensures.1 in
    entry_stopped F below _ e _ is (c.in_err-name.ensures.follows F 0 _ (c.in_ok-expect.ensures.follows F u _ a))

pub returns-in_err-expect-2-clause-follows : goal.returns-in_err-expect-2-clause-follows
returns-in_err-expect-2-clause-follows g c = λ F u below a.
    let e = c.in_err-expect-2.field-0.0 in
    let is = passed c.from_residual-in_err-expect-2.result e c.from_residual-in_err-expect-2.ensures.1 in
    entry_stopped F below _ e _ is (c.in_err-expect-2.ensures.follows F 0 _ (c.in_ok-name.ensures.follows F 0 _
    (c.in_ok-expect.ensures.follows F u _ a)))

pub returns-in_err-parts-clause-follows : goal.returns-in_err-parts-clause-follows
returns-in_err-parts-clause-follows g c = λ F u below a.
    let e = c.in_err-parts.field-0.0 in
    let is = passed c.from_residual-in_err-parts.result e c.from_residual-in_err-parts.ensures.1 in
    entry_stopped F below _ e _ is (c.in_err-parts.ensures.follows F 0 _ (c.in_ok-expect-2.ensures.follows F 0 _
    (c.in_ok-name.ensures.follows F 0 _ (c.in_ok-expect.ensures.follows F u _ a))))

pub returns-in_err-expect-3-clause-follows : goal.returns-in_err-expect-3-clause-follows
returns-in_err-expect-3-clause-follows g c = λ F u below a.
    let e = c.in_err-expect-3.field-0.0 in
    let is = passed c.from_residual-in_err-expect-3.result e c.from_residual-in_err-expect-3.ensures.1 in
    entry_stopped F below _ e _ is (c.in_err-expect-3.ensures.follows F 0 _ (c.in_ok-parts.ensures.follows F 0 _
    (c.in_ok-expect-2.ensures.follows F 0 _ (c.in_ok-name.ensures.follows F 0 _
    (c.in_ok-expect.ensures.follows F u _ a)))))

pub returns-clause-follows : goal.returns-clause-follows
returns-clause-follows g c = λ F u below a. c.in_ok-expect-3.ensures.follows F 0 _ (c.in_ok-parts.ensures.follows F 0 _
    (c.in_ok-expect-2.ensures.follows F 0 _ (c.in_ok-name.ensures.follows F 0 _
    (c.in_ok-expect.ensures.follows F u _ a))))

pub returns-clause-text : goal.returns-clause-text
returns-clause-text g c = record {
  form = forms.EntryForm.shape (leaf_at c.in_ok-expect.ensures.text.bytes c.in_ok-expect.field-0)
      (name_view c.in_ok-name.name) (leaf_at c.in_ok-expect-2.ensures.text.bytes c.in_ok-expect-2.field-0)
      c.in_ok-parts.ensures.text.form (leaf_at c.in_ok-expect-3.ensures.text.bytes c.in_ok-expect-3.field-0);
  spells = rw (
    c.in_ok-expect.ensures.text.text,
    c.in_ok-name.ensures.text,
    c.in_ok-expect-2.ensures.text.text,
    c.in_ok-parts.ensures.text.spells,
    c.in_ok-expect-3.ensures.text.text,
  ) refl;
  told = subst (λ ps. g.M.Maker.is_entered c.args.w.now.maker (tree.Entry.shape (name_view c.in_ok-name.name) ps)
      c.shape.new.self)
      c.in_ok-parts.ensures.text.stands_for c.shape.ensures;
}
