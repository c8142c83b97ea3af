-- What contracts see of a hall, and what a step answers and leaves.
use Rattle.std.specs.Prelude.{◌≡◌, ℕ, ◌+◌, ◌<◌, ◌≤◌, length, Option, Some, None}
use Rattle.fm_line.specs.Line.{line, upper}
use Rattle.fm_core.specs.State.{Setting, State, cell}
use Rattle.fm_core.specs.Orderly.{IsOrderly}
use Rattle.fm_core.specs.declared.floor.Floor.TheVariants.{At}
use Rattle.fm_core.specs.Effects.{after}
use Rattle.fm_core.specs.declared.reason.Reason.{Reason}
use Rattle.fm_core.specs.declared.step.Step.{Step}
use Rattle.fm_hall.specs.declared.taken.Taken as answers
use Rattle.fm_hall.specs.declared.taken.Taken.TheVariants.{Taken, Refused}

-- what never changes, and the state
pub record HallState : Type 0 where
  pub setting : Setting
  pub state : State

-- the answer to a step that is refused for this reason, or for none
abbrev pub answer : Option Reason → answers.Taken
answer None = Taken
answer (Some reason) = Refused reason

-- a hall after an allowed step
abbrev pub stepped : HallState → Step → HallState
stepped hall step = record hall { state = after hall.setting hall.state step }

-- what a hall keeps whatever its seats do: its state is orderly, and nothing is computed above the floor plus the lead
pub record IsSafe (g : Setting) (h : State) : Type 0 where
  pub orderly : IsOrderly g h
  pub led : (f p k : ℕ) → h.floor ≡ At f → p < length h.cells → k < (cell h p).computed
      → upper (line g.lines p) k ≤ f + g.lead
