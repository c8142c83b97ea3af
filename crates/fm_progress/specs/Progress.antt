-- What the chosen step promises, and where a run of chosen steps ends.
use Rattle.std.specs.Prelude.{◌≡◌, ℕ, zero, suc, ◌<◌, length, Option, Some, None}
use Rattle.fm_line.specs.Line.{total}
use Rattle.fm_line.specs.Piece.{piece}
use Rattle.fm_core.specs.Effects.{after}
use Rattle.fm_core.specs.State.{Setting, State, opening, cell}
use Rattle.fm_core.specs.Steps.{Allowed}
use Rattle.fm_core.specs.declared.step.Step.{Step}
use Rattle.fm_core.specs.declared.tag.Tag.TheVariants.{Drained}
use Rattle.fm_progress.specs.Left.{left, Less}
use Rattle.fm_progress.specs.NextStep.{next_step}

-- all is released and drained
pub record Finished (g : Setting) (h : State) : Type 0 where
  pub released : length h.released ≡ total g.lines
  pub drained : (p : ℕ) → p < length h.cells → (cell h p).tag ≡ Drained

-- a step that is allowed and leaves less to do
pub record Nearer (g : Setting) (h : State) (s : Step) : Type 0 where
  pub allowed : Allowed g h s
  pub less : Less (left g (after g h s)) (left g h)

-- what the chosen step is: none where all is released and drained, else one that brings the run nearer
abbrev pub GoesOn : Setting → State → Option Step → Type 0
GoesOn g h None = Finished g h
GoesOn g h (Some s) = Nearer g h s

-- what the chosen step leaves
abbrev pub go_on : Setting → State → Option Step → State
go_on g h None = h
go_on g h (Some s) = after g h s

-- what so many chosen steps leave, or fewer where none is left
abbrev pub played : ℕ → Setting → State → State
played zero g h = h
played (suc n) g h = played n g (go_on g h (next_step g h))

-- some number of chosen steps finishes the run
pub record ComesToEnd (g : Setting) (h : State) : Type 0 where
  pub steps : ℕ
  pub finished : Finished g (played steps g h)

-- some number of chosen steps from the opening releases the piece
pub record PlaysAll (g : Setting) (seats : ℕ) : Type 0 where
  pub steps : ℕ
  pub whole : (played steps g (opening (length g.lines) seats)).released ≡ piece g.lines
