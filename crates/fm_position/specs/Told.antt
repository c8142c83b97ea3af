-- What is told of a tick in the levels that are open where a process of a plan starts.
use Rattle.std.specs.Prelude.{◌≡◌, ℕ, ◌+◌, List, length}
use Rattle.fm_line.specs.Line.{start}
use Rattle.fm_locate.specs.Locating.{AreLocated, IsNeverAt}
use Rattle.fm_position.specs.Levels.{depth_at, levels_at}
use Rattle.fm_position.specs.PositionLine.{never_text, there_text}
use Rattle.fm_program.specs.Parts.{PlanParts}
use Rattle.fm_program.specs.Process.{plan_lines}

-- the line of a process for a tick: a position in each open level, or the first such level that has none
pub data IsLocated (plan : PlanParts) (process tick : ℕ) (text : List ℕ) : Type 0 where
  there : (positions : List ℕ) → length positions ≡ depth_at plan process
      → AreLocated plan.stock.warps (levels_at plan process) tick positions
      → text ≡ there_text process (start (plan_lines plan) process) positions → IsLocated plan process tick text
  never : (k : ℕ) → IsNeverAt plan.stock.warps (levels_at plan process) tick k
      → text ≡ never_text process (depth_at plan process) (start (plan_lines plan) process) (k + 1)
      → IsLocated plan process tick text
