use Rattle.std.proofs.Common.{◌∙◌, refl, map}
use Rattle.std.specs.List.{list_any}
use Rattle.fm_expansion.specs.Outline.{source_of}
use Rattle.fm_meaning.specs.Places.{draw_outside}
use Rattle.fm_outline.specs.View.{tables_view}
use Rattle.fm_outline.proofs.PassageLemmas.{any_passed}
use Rattle.fm_outline.proofs.indices.loops_of_draws.Goals as goal

pub loop-draw-preserved : goal.loop-draw-preserved
loop-draw-preserved c = λ k.
    let source = source_of (tables_view c.args.tables.now) in
    rw c.max-loops.ensures
    (any_passed (λ d. draw_outside k (source d)) (λ ds. list_any (draw_outside k) (map source ds)) c.args.draws.now
    c.loop-draw.draw-index _ c.loop-draw.loops c.loops_of_draw.result k
    (λ y ys. refl) c.loop-draw-test.true (c.loops_of_draw.ensures k)
    ∙ c.loop-draw.invariant k)
