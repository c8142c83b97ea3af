-- Where a process starts, in its levels and in the file.
use Rattle.std.proofs.Common.{◌≡◌, ◌<◌, ◌≤◌, ◌↔◌, ℕ, List, [], ◌∷◌, length, refl, sym, ◌∙◌, ap, subst}
use Rattle.fm_line.specs.Line.{start}
use Rattle.fm_warp.specs.declared.part.Part.{Part}
use Rattle.fm_warp.specs.declared.side.Side.TheVariants.{Onset}
use Rattle.fm_nest.specs.declared.frame.Frame.{Frame}
use Rattle.fm_nest.specs.Nesting.{composed}
use Rattle.fm_locate.specs.Locating.{AreLocated, innermost_position}
use Rattle.fm_locate.proofs.LocatingLemmas.{AreLocated-meets}
use Rattle.fm_program.specs.Parts.{PlanParts}
use Rattle.fm_program.specs.State.{OpenLevel}
use Rattle.fm_program.specs.Process.{plan_lines}
use Rattle.fm_program.specs.Fit.{PartsFit}
use Rattle.fm_player.specs.Course.{begun, start_place}
use Rattle.fm_player.specs.Timing.{level_of, levels_inside}
use Rattle.fm_player.proofs.BeginLemmas.{begin-fits, begin-levels, begin-position, begin-tick}
use Rattle.fm_player.proofs.TickLemmas.{on_tick, position-tick}
use Rattle.fm_position.specs.Levels.{levels_at}

-- levels of a state put a position where the frames do
ticks-agree : (warps : List (List Part)) (frames : List Frame) (ls : List OpenLevel) (x : ℕ)
    → on_tick (levels_inside warps frames ls) x ≡ on_tick ls (composed Onset warps frames x)
ticks-agree warps [] ls x = refl
ticks-agree warps (frame ∷ inner) ls x = ticks-agree warps inner (level_of warps frame ∷ ls) x

-- the levels put the position of the start where the process starts
pub composed-start : (p : PlanParts) (j : ℕ) → PartsFit p → j < length p.programs
    → composed Onset p.stock.warps (levels_at p j) (start_place p j).position ≡ start (plan_lines p) j
unfolding levels_at
composed-start p j fits below =
    sym (ticks-agree p.stock.warps (levels_at p j) [] (start_place p j).position)
    ∙ ap (λ (ls : List OpenLevel). on_tick ls (start_place p j).position) (begin-levels p j (start_place p j) fits below refl)
    ∙ ap (on_tick (begun p j).levels) (begin-position p j (start_place p j) refl)
    ∙ sym (position-tick (begun p j))
    ∙ begin-tick p j fits below

-- a tick is no later than the start exactly where it lies no later in the innermost level
pub start-meets : (p : PlanParts) (j tick : ℕ) (xs : List ℕ) → PartsFit p → j < length p.programs
    → AreLocated p.stock.warps (levels_at p j) tick xs
    → (tick ≤ start (plan_lines p) j) ↔ (innermost_position (levels_at p j) tick xs ≤ (start_place p j).position)
unfolding levels_at
start-meets p j tick xs fits below located =
    subst (λ (s : ℕ). (tick ≤ s) ↔ (innermost_position (levels_at p j) tick xs ≤ (start_place p j).position))
    (composed-start p j fits below)
    (AreLocated-meets p.stock.warps (levels_at p j) tick (start_place p j).position xs located
    (begin-fits p j (start_place p j) fits below refl).fits)
