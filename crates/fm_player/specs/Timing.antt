-- When open levels and a position are those of a state of a process.
use Rattle.std.specs.Prelude.{◌≡◌, ℕ, ◌≤◌, List, [], ◌∷◌}
use Rattle.fm_tick.specs.declared.tick.TheConstants.{MAX_TICK}
use Rattle.fm_warp.specs.declared.part.Part.{Part}
use Rattle.fm_warp.specs.declared.side.Side.TheVariants.{Onset, Ending}
use Rattle.fm_nest.specs.declared.frame.Frame.{Frame}
use Rattle.fm_nest.specs.Nesting.{FitsLevels, composed, frames_of, parts_of}
use Rattle.fm_nest.specs.Readiness.{ReadyFrom}
use Rattle.fm_program.specs.State.{OpenLevel, Standing}
use Rattle.fm_player.specs.declared.timeline.Timeline.{Timeline}

-- a level of a state
abbrev pub level_of : List (List Part) → Frame → OpenLevel
level_of warps f = record { warp = f.warp; parts = parts_of warps f; origin = f.origin }

-- levels, the outermost first, opened inside others
abbrev pub levels_inside : List (List Part) → List Frame → List OpenLevel → List OpenLevel
levels_inside warps [] ls = ls
levels_inside warps (f ∷ fs) ls = levels_inside warps fs (level_of warps f ∷ ls)

-- a position is within the limit at each level, the outermost too
pub record IsInTime (warps : List (List Part)) (frames : List Frame) (x : ℕ) : Type 0 where
  pub fits : FitsLevels Onset warps frames x
  pub within : composed Onset warps frames x ≤ MAX_TICK

-- every position from the present one on may be asked for, and that one is at the tick
pub record IsTimed (warps : List (List Part)) (time : Timeline) : Type 0 where
  pub fits : IsInTime warps (frames_of time.nest) time.position
  pub onsets : ReadyFrom Onset warps time.nest time.position
  pub endings : ReadyFrom Ending warps time.nest time.position
  pub tick : time.tick ≡ composed Onset warps (frames_of time.nest) time.position

-- levels and position are those of a state
pub record TimeStands (warps : List (List Part)) (time : Timeline) (s : Standing) : Type 0 where
  pub position : time.position ≡ s.position
  pub levels : levels_inside warps (frames_of time.nest) [] ≡ s.levels
