-- Positions of one level, and what the innermost of those found level by level says of the whole nest.
use Rattle.std.proofs.Common.{ℕ, ◌-◌, ◌<◌, ◌≤◌, ◌↔◌, List, [], ◌∷◌, arith}
use Rattle.fm_tick.specs.declared.tick.TheConstants.{MAX_TICK}
use Rattle.fm_warp.specs.declared.part.Part.{Part}
use Rattle.fm_warp.specs.declared.side.Side.TheVariants.{Onset}
use Rattle.fm_warp.specs.Deformation.{at, placed}
use Rattle.fm_warp.proofs.DeformationLemmas.{sum_from-mono}
use Rattle.fm_nest.specs.declared.frame.Frame.{Frame}
use Rattle.fm_nest.specs.Nesting.{FitsLevels, composed, parts_of}
use Rattle.fm_locate.specs.Locating.{AreLocated, IsLeastAt, IsNever, innermost_position}

-- a later position lies no earlier
pub at-mono : (parts : List Part) (x y : ℕ) → x ≤ y → at parts x ≤ at parts y
at-mono parts x y later = sum_from-mono Onset parts 0 x y later

-- what lies at t or later, where all before it lies before t, is least
pub IsLeastAt-first : (parts : List Part) (t x : ℕ) → x ≤ MAX_TICK → t ≤ at parts x → ((y : ℕ) → y < x → at parts y < t) →
    IsLeastAt 0 parts t x
IsLeastAt-first parts t x limited there before = record {
  limited = limited;
  there = omega (arith, there);
  least = λ y in_range here. grind (arith, before y, here);
}

-- the least position for the ticks from the origin to t is the least at t in the level above
pub IsLeastAt-placed : (origin : ℕ) (parts : List Part) (t x : ℕ) → IsLeastAt 0 parts (t - origin) x → IsLeastAt origin parts t x
IsLeastAt-placed origin parts t x found = record {
  limited = found.limited;
  there = omega (arith, found.there);
  least = λ y in_range here. found.least y in_range (omega (arith, here));
}

-- where the last position lies before t, each does
pub IsNever-last : (origin : ℕ) (parts : List Part) (t : ℕ) → placed Onset origin parts MAX_TICK < t → IsNever origin parts t
IsNever-last origin parts t short = λ y in_range. omega (arith, short, at-mono parts y MAX_TICK in_range)

-- a position lies at the tick or later exactly where it is not below the least such
pub IsLeastAt-meets : (origin : ℕ) (parts : List Part) (t x y : ℕ) → y ≤ MAX_TICK → IsLeastAt origin parts t x →
    (t ≤ placed Onset origin parts y) ↔ (x ≤ y)
IsLeastAt-meets origin parts t x y in_range found =
    (found.least y in_range, λ later. omega (arith, found.there, at-mono parts x y later))

-- the innermost position says where all levels together come to the tick
pub AreLocated-meets : (warps : List (List Part)) (frames : List Frame) (t x : ℕ) (xs : List ℕ) → AreLocated warps frames t xs →
    FitsLevels Onset warps frames x → (t ≤ composed Onset warps frames x) ↔ (innermost_position frames t xs ≤ x)
AreLocated-meets warps [] t x xs located fits = (λ later. later, λ later. later)
AreLocated-meets warps (frame ∷ inner) t x [] located fits = absurd located
AreLocated-meets warps (frame ∷ inner) t x (first ∷ xs) located fits =
    let here = IsLeastAt-meets frame.origin (parts_of warps frame) t first (composed Onset warps inner x) fits.1 located.0 in
    let rest = AreLocated-meets warps inner first x xs located.1 fits.2 in
    (λ later. rest.0 (here.0 later), λ later. here.1 (rest.1 later))
