use Rattle.std.proofs.Common.{◌≡◌, ◌++◌, ◌∷◌, ◌∙◌, [], rules, map, length, ap}
use Rattle.std.specs.Prelude.{vec_items}
use Rattle.std.proofs.lemmas.List.{map-append, length-map}
use Rattle.std.proofs.lemmas.Result.{on_ok_weaker}
use Rattle.fm_expansion.specs.Outline.{Tables}
use Rattle.fm_outline.specs.Asking.{BlockAsks}
use Rattle.fm_outline.specs.Forking.{AreAsking}
use Rattle.fm_outline.specs.View.{Look, block_view, tables_view}
use Rattle.fm_outline.proofs.WalkLemmas.{phrase_walked}
use Rattle.fm_outline.proofs.walk.Walk.define.Goals as goal

pub returns : goal.returns
returns c =
    let w = c.args.self.now in
    let steps = c.args.steps in
    let grown : map vec_items c.append.new.list.items ≡ map vec_items w.phrases.items ++ steps.items ∷ []
    = ap (map vec_items) (c.in_ok-append.ensures) ∙ map-append vec_items w.phrases.items (steps ∷ []) in
    let at : c.in_ok-number.number ≡ length (map vec_items w.phrases.items) = search (rules, length-map) in
    let asks : (v : Tables) (look : Look) → AreAsking v look steps.items
    → BlockAsks v (block_view look steps.items) c.steps_ask-needs.result
    = λ v look all. rw (← c.deref.ensures.value) (c.steps_ask-needs.ensures v look (rw (c.deref.ensures.value) all)) in
    on_ok_weaker c.define.result
    (λ defined score rest b t r free made.
    phrase_walked (tables_view w.tables) c.in_ok-number.number steps.items c.steps_ask-needs.result r free at grown defined
    made c.in_ok-append-2.ensures asks)
    c.define.ensures.ok
