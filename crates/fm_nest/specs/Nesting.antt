-- Levels of time, one open inside the other, and where they put a position of the innermost.
use Rattle.std.specs.Prelude.{ℕ, ◌-◌, ◌≤◌, ◌<◌, min, List, [], ◌∷◌, ◌++◌, length, map, replicate, slice_index_or, All}
use Rattle.fm_tick.specs.declared.tick.TheConstants.{MAX_TICK}
use Rattle.fm_warp.specs.declared.part.Part.{Part}
use Rattle.fm_warp.specs.declared.side.Side.{Side}
use Rattle.fm_warp.specs.declared.side.Side.TheVariants.{Ending}
use Rattle.fm_warp.specs.Deformation.{placed}
use Rattle.fm_nest.specs.declared.frame.Frame.{Frame}
use Rattle.fm_nest.specs.declared.level.Level.{Level}
use Rattle.fm_nest.specs.declared.nest.TheConstants.{MAX_LEVELS}

-- what open levels are: of each the deformation that it plays and where it begins in the level above
abbrev pub frames_of : List Level → List Frame
frames_of levels = map (λ level. level.frame) levels

-- the parts of the deformation that a frame names
abbrev pub parts_of : List (List Part) → Frame → List Part
parts_of warps frame = slice_index_or warps frame.warp []

-- where a level puts a position of its own in the level above
abbrev pub lifted : Side → List (List Part) → Frame → ℕ → ℕ
lifted side warps frame x = placed side frame.origin (parts_of warps frame) x

-- where levels, the outermost first, put a position of the innermost: each level makes whole ticks
-- of what the levels inside it make
abbrev pub composed : Side → List (List Part) → List Frame → ℕ → ℕ
composed _ _ [] x = x
composed side warps (frame ∷ inner) x = lifted side warps frame (composed side warps inner x)

-- the position at each level, the outermost first, that a position of the innermost comes to
abbrev pub positions : Side → List (List Part) → List Frame → ℕ → List ℕ
positions _ _ [] _ = []
positions side warps (_ ∷ inner) x = composed side warps inner x ∷ positions side warps inner x

-- a whole list of positions, mapped by the innermost level and then by one level after the other outwards
abbrev pub mapped_outwards : Side → List (List Part) → List Frame → List ℕ → List ℕ
mapped_outwards _ _ [] xs = xs
mapped_outwards side warps (frame ∷ inner) xs = map (lifted side warps frame) (mapped_outwards side warps inner xs)

-- each frame names a deformation, and the position at each level is within the limit
abbrev pub FitsLevels : Side → List (List Part) → List Frame → ℕ → Type 0
FitsLevels _ _ [] x = x ≤ MAX_TICK
FitsLevels side warps (frame ∷ inner) x =
    (frame.warp < length warps) × (composed side warps inner x ≤ MAX_TICK) × FitsLevels side warps inner x

-- a level begins within the limit
abbrev pub IsPlaced : Frame → Type 0
IsPlaced frame = frame.origin ≤ MAX_TICK

-- which deformation each level plays
abbrev pub warps_of : List Frame → List ℕ
warps_of frames = map (λ frame. frame.warp) frames

-- where each level begins, and 0 for each that is not open
abbrev pub padded_origins : List Frame → List ℕ
padded_origins frames = map (λ frame. frame.origin) frames ++ replicate (MAX_LEVELS - length frames) 0

-- levels of these deformations that begin at these positions
abbrev pub framed : List ℕ → List ℕ → List Frame
framed [] _ = []
framed (_ ∷ _) [] = []
framed (warp ∷ warps) (origin ∷ origins) = record { warp = warp; origin = origin } ∷ framed warps origins

-- ---- ends of notes

-- where a level puts the end of a note in the level above; an end behind the last tick counts as one at it
abbrev pub lifted_end : List (List Part) → Frame → ℕ → ℕ
lifted_end warps frame y = lifted Ending warps frame (min y MAX_TICK)

-- where levels, the outermost first, put the end of a note of the innermost, each level what the levels inside it make
abbrev pub far_composed : List (List Part) → List Frame → ℕ → ℕ
far_composed _ [] y = y
far_composed warps (frame ∷ inner) y = lifted_end warps frame (far_composed warps inner y)

-- a frame names a deformation
abbrev pub Names : List (List Part) → Frame → Type 0
Names warps frame = frame.warp < length warps

-- how far behind the last tick an end of a note lies at most
abbrev pub most_behind : ℕ
most_behind = 4000000
