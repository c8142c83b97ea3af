-- Where a tick of the file lies in the levels that are open where a process of a plan starts.
use Rattle.std.specs.Prelude.{◌≡◌, ℕ, ◌+◌, List}
use Rattle.fm_line.specs.Line.{start}
use Rattle.fm_locate.specs.Locating.{AreLocated, IsNeverAt}
use Rattle.fm_locate.specs.declared.levels.Located.{Located}
use Rattle.fm_locate.specs.declared.levels.Located.TheVariants.{There, Never}
use Rattle.fm_nest.specs.declared.frame.Frame.{Frame}
use Rattle.fm_nest.specs.Nesting.{framed}
use Rattle.fm_position.specs.declared.position.Position.{Position}
use Rattle.fm_program.specs.Parts.{PlanParts, process_program}
use Rattle.fm_program.specs.Process.{plan_lines}
use Rattle.fm_strand.specs.Course.{start_place}
use Rattle.fm_warp.specs.declared.part.Part.{Part}

-- the levels that are open where a process starts, the outermost first
unfoldable pub levels_at : PlanParts → ℕ → List Frame
levels_at plan process = framed (process_program plan process).levels (start_place plan process).origins

-- how many they are
abbrev pub depth_at : PlanParts → ℕ → ℕ
depth_at plan process = (start_place plan process).depth

-- what is found for a tick: a position in each level, or the first level, counted from 1, that has none
abbrev pub IsFound : List (List Part) → List Frame → ℕ → Located → Type 0
IsFound warps levels tick (There positions) = AreLocated warps levels tick positions
IsFound warps levels tick (Never level) = (k : ℕ) × (level ≡ k + 1) × IsNeverAt warps levels tick k

-- where a tick lies in the levels of the process j, and the tick at which that process starts
pub record IsPosition (plan : PlanParts) (j tick : ℕ) (position : Position) : Type 0 where
  pub process : position.process ≡ j
  pub depth : position.depth ≡ depth_at plan j
  pub start : position.start ≡ start (plan_lines plan) j
  pub found : IsFound plan.stock.warps (levels_at plan j) tick position.located
