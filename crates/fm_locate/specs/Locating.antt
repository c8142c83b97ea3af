-- Where a tick of the outermost level lies in each of the levels inside it.
use Rattle.std.specs.Prelude.{◌≡◌, ℕ, zero, suc, ◌<◌, ◌≤◌, List, [], ◌∷◌}
use Rattle.fm_tick.specs.declared.tick.TheConstants.{MAX_TICK}
use Rattle.fm_warp.specs.declared.part.Part.{Part}
use Rattle.fm_warp.specs.declared.side.Side.TheVariants.{Onset}
use Rattle.fm_warp.specs.Deformation.{placed}
use Rattle.fm_nest.specs.declared.frame.Frame.{Frame}
use Rattle.fm_nest.specs.Nesting.{parts_of}

-- x is the first position of a level, begun at this origin, that the level above has at t or later
pub record IsLeastAt (origin : ℕ) (parts : List Part) (t x : ℕ) : Type 0 where
  pub limited : x ≤ MAX_TICK
  pub there : t ≤ placed Onset origin parts x
  pub least : (y : ℕ) → y ≤ MAX_TICK → t ≤ placed Onset origin parts y → x ≤ y

-- the level above has every position of the level before t
abbrev pub IsNever : ℕ → List Part → ℕ → Type 0
IsNever origin parts t = (y : ℕ) → y ≤ MAX_TICK → placed Onset origin parts y < t

-- each of these numbers is 0
abbrev pub AreZero : List ℕ → Type 0
AreZero [] = Unit {0}
AreZero (x ∷ xs) = (x ≡ 0) × AreZero xs

-- from the outermost level on, each position is the first at the one before or later; behind them stands 0
abbrev pub AreLocated : List (List Part) → List Frame → ℕ → List ℕ → Type 0
AreLocated warps [] t xs = AreZero xs
AreLocated warps (frame ∷ inner) t [] = ⊥
AreLocated warps (frame ∷ inner) t (x ∷ xs) =
    IsLeastAt frame.origin (parts_of warps frame) t x × AreLocated warps inner x xs

-- the level k, counted from 0 from the outermost, is the first that has no such position
abbrev pub IsNeverAt : List (List Part) → List Frame → ℕ → ℕ → Type 0
IsNeverAt warps [] t k = ⊥
IsNeverAt warps (frame ∷ inner) t zero = IsNever frame.origin (parts_of warps frame) t
IsNeverAt warps (frame ∷ inner) t (suc k) =
    (x : ℕ) × IsLeastAt frame.origin (parts_of warps frame) t x × IsNeverAt warps inner x k

-- of positions found for a tick, that of the innermost level, or the tick where no level is open
abbrev pub innermost_position : List Frame → ℕ → List ℕ → ℕ
innermost_position [] t xs = t
innermost_position (frame ∷ inner) t [] = t
innermost_position (frame ∷ inner) t (x ∷ xs) = innermost_position inner x xs
