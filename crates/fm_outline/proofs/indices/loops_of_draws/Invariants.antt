use Rattle.std.proofs.Common.{◌≡◌, ◌||◌, ℕ, nat_lt, drop, map}
use Rattle.std.specs.List.{list_any}
use Rattle.fm_expansion.specs.Outline.{source_of}
use Rattle.fm_meaning.specs.Places.{draw_outside}
use Rattle.fm_outline.specs.View.{tables_view}
use Rattle.fm_outline.proofs.indices.loops_of_draws.Given as goal

-- the pitches that are left may ask for more
abbrev pub invariant-loop-draw : goal.invariant-loop-draw
invariant-loop-draw l =
    (k : ℕ) → (nat_lt k l.loops || list_any (draw_outside k) (map (source_of (tables_view l.tables)) (drop l.draw-index l.draws)))
    ≡ list_any (draw_outside k) (map (source_of (tables_view l.tables)) l.draws)
