-- A process as it runs: when its fields are those of its state, and what a step and a quantum do.
use Rattle.std.specs.Prelude.{◌≡◌, ℕ, ◌+◌, ◌-◌, ◌*◌, ◌^◌, ◌<◌, ◌≤◌, List, [], ◌∷◌, length, All, Bool, true, false, Option, Some, None}
use Rattle.fm_msg.specs.declared.msg.TheConstants.{DATA_VALUES}
use Rattle.fm_msg.specs.Event.{TimedMessage}
use Rattle.fm_line.specs.Marks.{mark_event}
use Rattle.fm_line.specs.Sounds.{is_note_off}
use Rattle.fm_nest.specs.declared.place.Place.{Place}
use Rattle.fm_program.specs.Parts.{PlanParts}
use Rattle.fm_program.specs.declared.op.TheConstants.{MAX_FRAMES}
use Rattle.fm_program.specs.declared.op.Op.{Op}
use Rattle.fm_program.specs.declared.op.Op.TheVariants as op
use Rattle.fm_program.specs.declared.op.Point.{Point}
use Rattle.fm_program.specs.declared.op.Point.TheVariants as point
use Rattle.fm_program.specs.Action.{Action}
use Rattle.fm_program.specs.State.{Standing}
use Rattle.fm_program.specs.Needs.{holds, is_open}
use Rattle.fm_program.specs.Run.{done, step}
use Rattle.fm_program.specs.Run as Run
use Rattle.fm_program.specs.Process.{spot_reached}
use Rattle.fm_program.specs.Fit.{PartsFit}
use Rattle.fm_player.specs.declared.player.Player.{Player}
use Rattle.fm_player.specs.declared.answers.Stepped.{Stepped}
use Rattle.fm_player.specs.declared.answers.Stepped.TheVariants as stepped
use Rattle.fm_player.specs.Course.{code_of, standing, steps_of, to_come, step_event, tick_of, place_of}
use Rattle.fm_player.specs.Drawing.{IsFrame, DrawsStand}
use Rattle.fm_player.specs.Timing.{IsTimed, TimeStands}
use Rattle.fm_player.specs.Sounding.{IsPending, NoteStands}

-- ---- what a player is

-- the fields are those of a state
pub record Stands (p : PlanParts) (s : Player) (w : Standing) : Type 0 where
  pub process : w.process ≡ s.process
  pub operation : s.operation ≡ w.operation
  pub index : s.index ≡ w.index
  pub draws : DrawsStand p.stock s.draws w
  pub time : TimeStands p.stock.warps s.time w
  pub note : NoteStands s.process s.note w

-- the fields can be gone on with
pub record IsReady (p : PlanParts) (s : Player) : Type 0 where
  pub frames : All (IsFrame p.stock) s.draws.frames.items
  pub time : IsTimed p.stock.warps s.time
  pub note : IsPending s.note
  pub few : length s.draws.frames.items ≤ MAX_FRAMES

-- the player is a process of the plan after so many of its steps
pub record InCourse (p : PlanParts) (s : Player) : Type 0 where
  pub fits : PartsFit p
  pub process : s.process < length p.programs
  pub within : s.made ≤ steps_of p s.process
  -- a step numbers at most 32 events
  pub index : s.index ≤ 32 * s.made
  pub ready : IsReady p s
  pub stands : Stands p s (standing p s.process s.made)

-- ---- what an operation does

-- the state that a step leaves
abbrev pub left_by : Run.Stepped → Standing → Standing
left_by Run.over w = w
left_by Run.stuck w = w
left_by (Run.silent w') w = w'
left_by (Run.sounding m w') w = w'

-- a player in a state may do an operation: what that needs is open, and it leaves the limits kept
pub record CanDo (p : PlanParts) (s : Player) (w : Standing) (a : Action) : Type 0 where
  pub fits : PartsFit p
  pub ready : IsReady p s
  pub stands : Stands p s w
  pub due : w.due ≡ []
  pub opened : is_open a w ≡ true
  pub within : holds (left_by (done a w) w) ≡ true
  pub index : s.index ≤ 2 ^ 30
  pub operation : s.operation + 1 < 2 ^ 64

-- the operation is done
pub record Does (p : PlanParts) (old new : Player) (w : Standing) (a : Action) : Type 0 where
  pub process : new.process ≡ old.process
  pub made : new.made ≡ old.made
  pub ready : IsReady p new
  pub stands : Stands p new (left_by (done a w) w)
  -- a note numbers at most 32 events
  pub index : new.index ≤ old.index + 32

-- the controller of a point is one
abbrev pub IsController : Point → Type 0
IsController (point.Control c) = c < DATA_VALUES
IsController point.Program = Unit {0}
IsController point.Bend = Unit {0}

-- the answer of an operation
abbrev pub Answers : Run.Stepped → Stepped → Type 0
Answers Run.over result = ⊥
Answers Run.stuck result = ⊥
Answers (Run.silent w) result = result ≡ stepped.Silent
Answers (Run.sounding m w) result = (e : TimedMessage) × (result ≡ stepped.Event e) × (mark_event m ≡ Some e)

-- ---- what it tells

-- the events that it has still to give
unfoldable pub rest : PlanParts → Player → List TimedMessage
rest p s = to_come p s.process s.made

-- how many steps it has still to make
unfoldable pub steps_left : PlanParts → Player → ℕ
steps_left p s = steps_of p s.process - s.made

-- its tick
unfoldable pub clock_of : PlanParts → Player → ℕ
clock_of p s = tick_of (standing p s.process s.made)

-- its position and its levels
unfoldable pub place_reached : PlanParts → Player → Place
place_reached p s = place_of (spot_reached (standing p s.process s.made))

-- the event that its next step gives
unfoldable pub next_event : PlanParts → Player → Option TimedMessage
next_event p s = step_event (step (code_of p s.process) (standing p s.process s.made))

-- whether an operation gives an event by itself
abbrev pub is_send : Op → Bool
is_send (op.Note chord span ch gate loud scope) = false
is_send (op.Rest span scope) = false
is_send (op.Send pt ch x scope) = true
is_send (op.Set r e scope) = false
is_send (op.Test e scope past) = false
is_send (op.Jump to) = false
is_send (op.Loop n scope past) = false
is_send (op.Again back) = false
is_send (op.Begin l) = false
is_send op.Close = false
is_send (op.Enter v) = false
is_send op.Leave = false

-- ---- what a step does

-- a step that was made is one less that is left
abbrev pub IsMade : PlanParts → Player → Player → Type 0
IsMade p old new = steps_left p old ≡ steps_left p new + 1

-- the answer of a step: ended exactly where none is left, silent or an event as the program's next step is; a note-off
-- is no earlier than the clock, and any other event is at it
abbrev pub StepIs : PlanParts → Player → Stepped → Player → Type 0
StepIs p old stepped.Ended new = (steps_left p old ≡ 0) × (new ≡ old)
StepIs p old stepped.Silent new =
    IsMade p old new × (next_event p old ≡ None) × (rest p old ≡ rest p new)
StepIs p old (stepped.Event e) new =
    IsMade p old new × (next_event p old ≡ Some e) × (rest p old ≡ e ∷ rest p new)
    × (is_note_off e.msg ≡ false → clock_of p old ≡ e.time) × (clock_of p old ≤ e.time)

-- what a step does: it keeps the process and its course, and the clock never falls
pub record MakesStep (p : PlanParts) (old : Player) (result : Stepped) (new : Player) : Type 0 where
  pub process : new.process ≡ old.process
  pub course : InCourse p new
  pub is : StepIs p old result new
  pub clock : clock_of p old ≤ clock_of p new
