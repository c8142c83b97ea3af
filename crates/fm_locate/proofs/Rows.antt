-- Worked positions: each is the least because it lies late enough and the one before it does not.
use Rattle.std.proofs.Common.{◌≡◌, ℕ, suc, ◌<◌, ◌≤◌, List, [], ◌∷◌, refl, arith}
use Rattle.fm_tick.specs.Quotient.{flat_of}
use Rattle.fm_tick.specs.declared.tick.TheConstants.{MAX_TICK}
use Rattle.fm_warp.specs.declared.part.Part.{Part}
use Rattle.fm_warp.specs.declared.part.Part.TheVariants.{Flat, Breath}
use Rattle.fm_warp.specs.declared.side.Side.TheVariants.{Onset}
use Rattle.fm_warp.specs.Deformation.{at, placed}
use Rattle.fm_nest.specs.declared.frame.Frame.{Frame}
use Rattle.fm_nest.specs.Nesting.{composed}
use Rattle.fm_locate.specs.Locating.{AreLocated, AreZero, IsLeastAt, IsNever, IsNeverAt, innermost_position}
use Rattle.fm_locate.proofs.LocatingLemmas.{at-mono, IsNever-last}

-- the position behind one that lies before t is the least at t, if it lies there or later
least_at : (origin : ℕ) (parts : List Part) (t x : ℕ) → suc x ≤ MAX_TICK → t ≤ placed Onset origin parts (suc x) →
    placed Onset origin parts x < t → IsLeastAt origin parts t (suc x)
least_at origin parts t x limited there before = record {
  limited = limited;
  there = there;
  least = λ y in_range here. grind (arith, at-mono parts y x, before, here);
}

-- a steady part of so many ticks and thousandths
abbrev steady : ℕ → (thousandths : ℕ) → 1 ≤ thousandths → thousandths ≤ 1000000 → List Part
steady length thousandths positive limited =
    Flat length (record { thousandths = thousandths; positive = positive; limited = limited }) ∷ []

-- a level of a deformation that begins at an origin
abbrev level : ℕ → ℕ → Frame
level warp origin = record { warp = warp; origin = origin }

-- ---- one level

abbrev third : List Part
third = steady 1000 333 (omega arith) (omega arith)

third_at : (at third 3 ≡ 0) × (at third 4 ≡ 1) × (at third 9 ≡ 2) × (at third 10 ≡ 3)
unfolding flat_of
third_at = (refl, refl, refl, refl)

third_of_1 : IsLeastAt 0 third 1 4
third_of_1 = least_at 0 third 1 3 (omega arith) (omega (arith, third_at.1)) (omega (arith, third_at.0))

third_of_3 : IsLeastAt 0 third 3 10
third_of_3 = least_at 0 third 3 9 (omega arith) (omega (arith, third_at.3)) (omega (arith, third_at.2))

-- a breath delays the very first position
breath_of_100 : IsLeastAt 0 (Breath 120 ∷ []) 100 0
breath_of_100 = record { limited = omega arith; there = omega arith; least = λ y in_range here. omega arith }

-- all but a thousandth of a million ticks is taken out
abbrev hurried : List Part
hurried = steady 1000000 1 (omega arith) (omega arith)

hurried_at : at hurried MAX_TICK ≡ 1099510628776
unfolding flat_of
hurried_at = refl

never_last : IsNever 0 hurried MAX_TICK
never_last = IsNever-last 0 hurried MAX_TICK (omega (arith, hurried_at))

-- ---- levels

abbrev half : List Part
half = steady 1000 500 (omega arith) (omega arith)

abbrev double : List Part
double = steady 1000 2000 (omega arith) (omega arith)

half_at : (at half 41 ≡ 20) × (at half 42 ≡ 21) × (at half 119 ≡ 59) × (at half 120 ≡ 60)
    × (at half 1099511627665 ≡ 1099511627165) × (at half 1099511627666 ≡ 1099511627166)
unfolding flat_of
half_at = (refl, refl, refl, refl, refl, refl)

double_at : (at double 50 ≡ 100) × (at double 51 ≡ 102)
unfolding flat_of
double_at = (refl, refl)

six_more : AreZero (0 ∷ 0 ∷ 0 ∷ 0 ∷ 0 ∷ 0 ∷ [])
six_more = (refl, (refl, (refl, (refl, (refl, (refl, tt))))))

-- one level at half the time, from the beginning
one_level : AreLocated (half ∷ []) (level 0 0 ∷ []) 60 (120 ∷ 0 ∷ 0 ∷ 0 ∷ 0 ∷ 0 ∷ 0 ∷ 0 ∷ [])
one_level = (least_at 0 half 60 119 (omega arith) (omega (arith, half_at.3)) (omega (arith, half_at.2)), (refl, six_more))

-- its position 100 is played at 50
one_level_start : composed Onset (half ∷ []) (level 0 0 ∷ []) 100 ≡ 50
unfolding flat_of
one_level_start = refl

-- half the time, begun at 30 of double the time, begun at 100: the outer position lies a tick late, the inner one just there
two_levels : AreLocated (double ∷ half ∷ []) (level 0 100 ∷ level 1 30 ∷ []) 201 (51 ∷ 42 ∷ 0 ∷ 0 ∷ 0 ∷ 0 ∷ 0 ∷ 0 ∷ [])
two_levels = (
  least_at 100 double 201 50 (omega arith) (omega (arith, double_at.1)) (omega (arith, double_at.0)),
  (least_at 30 half 51 41 (omega arith) (omega (arith, half_at.1)) (omega (arith, half_at.0)), six_more),
)

two_levels_innermost : innermost_position (level 0 100 ∷ level 1 30 ∷ []) 201 (51 ∷ 42 ∷ []) ≡ 42
two_levels_innermost = refl

-- the three positions of the inner level next to it are played at these ticks
two_levels_played : (composed Onset (double ∷ half ∷ []) (level 0 100 ∷ level 1 30 ∷ []) 41 ≡ 200)
    × (composed Onset (double ∷ half ∷ []) (level 0 100 ∷ level 1 30 ∷ []) 42 ≡ 202)
    × (composed Onset (double ∷ half ∷ []) (level 0 100 ∷ level 1 30 ∷ []) 43 ≡ 202)
unfolding flat_of
two_levels_played = (refl, refl, refl)

-- the second level does not come to where the first one is
never_inside : IsNeverAt (half ∷ hurried ∷ []) (level 0 10 ∷ level 1 20 ∷ []) 1099511627176 1
never_inside = (
  1099511627666,
  least_at 10 half 1099511627176 1099511627665 (omega arith) (omega (arith, half_at.5)) (omega (arith, half_at.4)),
  IsNever-last 20 hurried 1099511627666 (omega (arith, hurried_at)),
)
