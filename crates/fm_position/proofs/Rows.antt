-- Worked lines: where ticks lie in the levels of worked plans, and what is told of them.
use Rattle.std.proofs.Common.{◌≡◌, ℕ, suc, ◌<◌, ◌≤◌, List, [], ◌∷◌, codes, refl, sym, ◌∙◌, ap, subst, arith}
use Rattle.std.specs.Fmt.{digits}
use Rattle.fm_line.specs.Line.{start, total}
use Rattle.fm_tick.specs.Quotient.{flat_of}
use Rattle.fm_tick.specs.declared.tick.TheConstants.{MAX_TICK}
use Rattle.fm_warp.specs.declared.part.Part.{Part}
use Rattle.fm_warp.specs.declared.side.Side.TheVariants.{Onset}
use Rattle.fm_warp.specs.Deformation.{at, placed}
use Rattle.fm_locate.specs.Locating.{IsLeastAt}
use Rattle.fm_locate.proofs.LocatingLemmas.{IsNever-last, at-mono}
use Rattle.fm_program.specs.Parts.{PlanParts}
use Rattle.fm_program.specs.Process.{plan_lines, plan_played}
use Rattle.fm_program.specs.Fit.{PartsFit, all_steps}
use Rattle.fm_program.proofs.Rows.{fits_by}
use Rattle.fm_strand.specs.Course.{start_place}
use Rattle.fm_position.specs.Levels.{depth_at, levels_at}
use Rattle.fm_position.specs.PositionLine.{never_text, there_text}
use Rattle.fm_position.specs.Told.{IsLocated, never, there}
use Rattle.fm_position.specs.Worked.{branch_plan, half_parts, hurried_parts, nested_plan}

-- the position behind one that lies before t is the first at t, if it lies there or later
first_at : (origin : ℕ) (parts : List Part) (t x : ℕ) → suc x ≤ MAX_TICK → t ≤ placed Onset origin parts (suc x)
    → placed Onset origin parts x < t → IsLeastAt origin parts t (suc x)
first_at origin parts t x limited later before = record {
  limited = limited;
  there = later;
  least = λ y in_range here. grind (arith, at-mono parts y x, before, here);
}

-- ---- lines

-- one position
one_position : codes "process 1 levels 1 start 50 positions 120\n" ≡ there_text 1 50 (120 ∷ [])
unfolding there_text digits
one_position = refl

-- two of them, the outer level's in front
two_positions : codes "process 1 levels 2 start 30 positions 100 60000\n" ≡ there_text 1 30 (100 ∷ 60000 ∷ [])
unfolding there_text digits
two_positions = refl

-- without a level the line ends with the word
no_position : codes "process 0 levels 0 start 0 positions\n" ≡ there_text 0 0 []
unfolding there_text digits
no_position = refl

-- the second of two levels has none
second_never : codes "process 1 levels 2 start 30 never 2\n" ≡ never_text 1 2 30 2
unfolding never_text digits
second_never = refl

-- ---- a branch in one level

branch_steps : all_steps (plan_played branch_plan) ≡ 6
unfolding flat_of
branch_steps = refl

branch_events : total (plan_lines branch_plan) ≡ 2
unfolding flat_of
branch_events = refl

-- its plan fits
branch_fits : PartsFit branch_plan
unfolding flat_of
branch_fits = fits_by _ (omega arith) (omega arith) refl refl refl refl refl refl (rw branch_steps (omega arith))
    (rw branch_events (omega arith))

-- a plan that is the same fits
pub branch_fits_as : (p : PlanParts) → p ≡ branch_plan → PartsFit p
branch_fits_as p is = subst PartsFit (sym is) branch_fits

branch_levels : levels_at branch_plan 1 ≡ record { warp = 0; origin = 0 } ∷ []
unfolding levels_at start_place flat_of
branch_levels = refl

branch_depth : depth_at branch_plan 1 ≡ 1
unfolding start_place flat_of
branch_depth = refl

branch_start : start (plan_lines branch_plan) 1 ≡ 50
unfolding flat_of
branch_start = refl

half_at : (at half_parts 99 ≡ 49) × (at half_parts 100 ≡ 50) × (at half_parts 119 ≡ 59) × (at half_parts 120 ≡ 60)
    × (at half_parts 1099511627665 ≡ 1099511627165) × (at half_parts 1099511627666 ≡ 1099511627166)
unfolding flat_of
half_at = (refl, refl, refl, refl, refl, refl)

-- the tick 60 lies at 120 of the level, and the branch starts at 50
branch_told : IsLocated branch_plan 1 60 (codes "process 1 levels 1 start 50 positions 120\n")
branch_told =
    there (120 ∷ []) (sym branch_depth)
    (rw branch_levels (first_at 0 half_parts 60 119 (omega arith) (omega (arith, half_at.3)) (omega (arith, half_at.2)), tt))
    (one_position ∙ ap (λ (s : ℕ). there_text 1 s (120 ∷ [])) (sym branch_start))

-- ---- a process in two levels

nested_steps : all_steps (plan_played nested_plan) ≡ 5
unfolding flat_of
nested_steps = refl

nested_events : total (plan_lines nested_plan) ≡ 0
unfolding flat_of
nested_events = refl

-- its plan fits
nested_fits : PartsFit nested_plan
unfolding flat_of
nested_fits = fits_by _ (omega arith) (omega arith) refl refl refl refl refl refl (rw nested_steps (omega arith))
    (rw nested_events (omega arith))

-- a plan that is the same fits
pub nested_fits_as : (p : PlanParts) → p ≡ nested_plan → PartsFit p
nested_fits_as p is = subst PartsFit (sym is) nested_fits

nested_levels : levels_at nested_plan 1 ≡ record { warp = 0; origin = 10 } ∷ record { warp = 1; origin = 40 } ∷ []
unfolding levels_at start_place flat_of
nested_levels = refl

nested_depth : depth_at nested_plan 1 ≡ 2
unfolding start_place flat_of
nested_depth = refl

nested_start : start (plan_lines nested_plan) 1 ≡ 30
unfolding flat_of
nested_start = refl

hurried_at : (at hurried_parts 59999 ≡ 59) × (at hurried_parts 60000 ≡ 60) × (at hurried_parts MAX_TICK ≡ 1099510628776)
unfolding flat_of
hurried_at = (refl, refl, refl)

-- the tick 60 lies at 100 of the outer level, and that at 60000 of the inner one
nested_told : IsLocated nested_plan 1 60 (codes "process 1 levels 2 start 30 positions 100 60000\n")
nested_told =
    there (100 ∷ 60000 ∷ []) (sym nested_depth)
    (rw nested_levels (
      first_at 10 half_parts 60 99 (omega arith) (omega (arith, half_at.1)) (omega (arith, half_at.0)),
      (first_at 40 hurried_parts 100 59999 (omega arith) (omega (arith, hurried_at.1)) (omega (arith, hurried_at.0)), tt),
    ))
    (two_positions ∙ ap (λ (s : ℕ). there_text 1 s (100 ∷ 60000 ∷ [])) (sym nested_start))

-- the inner level never comes to where the tick lies in the outer one
nested_never : IsLocated nested_plan 1 1099511627176 (codes "process 1 levels 2 start 30 never 2\n")
nested_never =
    never 1
    (rw nested_levels (
      1099511627666,
      first_at 10 half_parts 1099511627176 1099511627665 (omega arith) (omega (arith, half_at.5)) (omega (arith, half_at.4)),
      IsNever-last 40 hurried_parts 1099511627666 (omega (arith, hurried_at.2)),
    ))
    (second_never
    ∙ ap (λ (n : ℕ). never_text 1 n 30 2) (sym nested_depth)
    ∙ ap (λ (s : ℕ). never_text 1 (depth_at nested_plan 1) s 2) (sym nested_start))
