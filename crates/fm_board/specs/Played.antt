-- The run of the core that a seat is part of.
use Rattle.std.specs.Prelude.{◌≡◌, ℕ, ◌<◌, List, length}
use Rattle.fm_line.specs.Piece.{piece}
use Rattle.fm_core.specs.Effects.{Legal, run}
use Rattle.fm_core.specs.Invariant.{Sound, ValidSetting}
use Rattle.fm_core.specs.State.{Setting, State, cell, desk, opening}
use Rattle.fm_core.specs.declared.step.Step.{Step}
use Rattle.fm_core.specs.declared.tag.Tag.TheVariants.{Drained}
use Rattle.fm_program.specs.Process.{plan_lines}
use Rattle.fm_board.specs.declared.view.Mind.{Mind}
use Rattle.fm_board.specs.declared.view.View.{View}
use Rattle.fm_board.specs.Runs.{BeginsWith, by_seat}
use Rattle.fm_board.specs.StandsFor.{HoldsIn}

-- the lines, the room and the lead, as a seat knows them
abbrev pub setting_of : Mind → Setting
setting_of m = record { lines = plan_lines m.view.plan; room = m.room; lead = m.view.lead }

-- the state in which its board began
abbrev pub beginning_of : Mind → State
beginning_of m = opening (length (plan_lines m.view.plan)) m.view.seats

-- what seat 0 keeps of a state beside its sweep
pub record ShowsZero (h : State) (v : View) : Type 0 where
  pub due : v.due ≡ h.due
  pub visited : v.visited ≡ h.visited
  pub gathered : v.gathered ≡ h.gather
  pub released : v.released ≡ length h.released
  pub published : v.published ≡ h.floor

-- the view is what a state says of the seat with its number
pub record Shows (h : State) (v : View) : Type 0 where
  pub here : v.number < length h.desks
  pub holds : HoldsIn h v.number v.holds
  pub sweep : v.sweep ≡ (desk h v.number).sweep
  pub paced : v.paced ≡ (desk h v.number).paced
  pub zero : v.number ≡ 0 → ShowsZero h v

-- there is a run of allowed steps from the beginning in which the seat made just the steps that it knows of; it begins
-- with all that the seat has seen, and the seat's view is of the state to which it leads
pub record IsPlayed (m : Mind) : Type 0 where
  pub steps : List Step
  pub valid : ValidSetting (setting_of m)
  pub legal : Legal (setting_of m) (beginning_of m) steps
  pub sound : Sound (setting_of m) (run (setting_of m) (beginning_of m) steps)
  pub mine : m.log.mine ≡ by_seat m.view.number steps
  pub seen : BeginsWith steps m.log.seen
  pub shows : Shows (run (setting_of m) (beginning_of m) steps) m.view

-- all of the piece is released, and every process is drained
pub record IsWhole (g : Setting) (h : State) : Type 0 where
  pub released : h.released ≡ piece g.lines
  pub drained : (p : ℕ) → p < length h.cells → (cell h p).tag ≡ Drained

-- such a run, which plays the whole piece
pub record PlaysWhole (m : Mind) : Type 0 where
  pub steps : List Step
  pub legal : Legal (setting_of m) (beginning_of m) steps
  pub mine : m.log.mine ≡ by_seat m.view.number steps
  pub seen : BeginsWith steps m.log.seen
  pub whole : IsWhole (setting_of m) (run (setting_of m) (beginning_of m) steps)
