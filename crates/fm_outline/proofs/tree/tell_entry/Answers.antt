use Rattle.std.proofs.Common.{◌≡◌, rules}
use Rattle.fm_grammar.specs.Score as text
use Rattle.fm_grammar.specs.View.{entry_view, item_view, items_view, name_view}
use Rattle.fm_outline.proofs.tree.tell_entry.Goals as goal

pub returns-in_ok-parts-in-Shape : goal.returns-in_ok-parts-in-Shape
returns-in_ok-parts-in-Shape c =
    let seen : entry_view c.args.entry.now ≡ text.shape (name_view c.in-Shape.name) c.in-Shape.parts.items = search rules in
    rw (seen, ← c.in_ok-parts-in-Shape.ensures) c.shape.ensures

pub returns-in_ok-body-in-Phrase : goal.returns-in_ok-body-in-Phrase
returns-in_ok-body-in-Phrase c =
    let seen : entry_view c.args.entry.now ≡ text.phrase (name_view c.in-Phrase.name) (items_view c.deref.result.now)
    = search rules in
    rw seen (c.phrase.ensures _ _ _ c.name.ensures c.in_ok-body-in-Phrase.ensures)

pub returns-in_ok-step-in-Play : goal.returns-in_ok-step-in-Play
returns-in_ok-step-in-Play c =
    let i = c.in-Play.item in
    let seen : entry_view c.args.entry.now ≡ text.plays (item_view i).spot (item_view i).what = search rules in
    rw seen (c.enter.ensures _ (item_view i) c.in_ok-step-in-Play.ensures)
