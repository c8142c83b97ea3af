-- The course of a process: what it gave, what is to come and where it is after so many steps, as functions of the plan.
use Rattle.std.specs.Prelude.{◌≡◌, ℕ, ◌-◌, ◌≤◌, List, [], ◌∷◌, ◌++◌, length, map, replicate, All, Option, None, nat_lt, if◌then◌else◌}
use Rattle.std.specs.Option.{option_to_list}
use Rattle.fm_tick.specs.declared.tick.TheConstants.{MAX_TICK}
use Rattle.fm_msg.specs.Event.{TimedMessage}
use Rattle.fm_line.specs.Marks.{Mark, mark_event}
use Rattle.fm_nest.specs.declared.nest.TheConstants.{MAX_LEVELS}
use Rattle.fm_nest.specs.declared.place.Place.{Place}
use Rattle.fm_program.specs.declared.plan.TheConstants.{MAX_STEPS}
use Rattle.fm_program.specs.Parts.{PlanParts, process_program}
use Rattle.fm_program.specs.Action.{Action, action_of}
use Rattle.fm_program.specs.State.{Standing}
use Rattle.fm_program.specs.Run.{Stepped, over, stuck, silent, sounding, put_out, program_run}
use Rattle.fm_program.specs.Cut.{Cut, cut_run}
use Rattle.fm_program.specs.Process.{Spot, outset, at_start, process_run, spot_reached, ending_mark}

-- ---- steps

-- the operations of the process j, with all that they name
abbrev pub code_of : PlanParts → ℕ → List Action
code_of p j = map (action_of p.stock) (process_program p j).ops

-- the process j at its start
abbrev pub begun : PlanParts → ℕ → Standing
begun p j = at_start p.stock p.seed j (process_program p j) (process_run p j).start

-- its first n steps
abbrev pub passed : PlanParts → ℕ → ℕ → Cut
passed p j n = cut_run (code_of p j) n (begun p j)

-- the process after n steps
abbrev pub standing : PlanParts → ℕ → ℕ → Standing
standing p j n = (passed p j n).now

-- how many steps it takes
abbrev pub steps_of : PlanParts → ℕ → ℕ
steps_of p j = (process_run p j).run.steps

-- ---- events

-- the events of marks of the outermost level
abbrev pub mark_events : List Mark → List TimedMessage
mark_events [] = []
mark_events (m ∷ ms) = option_to_list (mark_event m) ++ mark_events ms

-- the events that the first n steps of the process j give
unfoldable pub given : PlanParts → ℕ → ℕ → List TimedMessage
given p j n = mark_events (passed p j n).marks

-- the events that the steps after the first n give
unfoldable pub to_come : PlanParts → ℕ → ℕ → List TimedMessage
to_come p j n = mark_events (program_run (code_of p j) (MAX_STEPS - n) (standing p j n)).marks

-- the event that a step gives
abbrev pub step_event : Stepped → Option TimedMessage
step_event over = None
step_event stuck = None
step_event (silent s) = None
step_event (sounding m s) = mark_event m

-- ---- times and places

-- the tick of a state: where the next mark which is due begins, else that of its position
abbrev pub tick_from : Standing → List Mark → ℕ
tick_from s [] = (ending_mark s).onset
tick_from s (m ∷ ms) = (put_out s.levels m).onset

-- the tick of a state, with the marks that it owes
abbrev pub tick_of : Standing → ℕ
tick_of s = tick_from s s.due

-- a place as a nest is resumed from it
abbrev pub place_of : Spot → Place
place_of spot = record {
  depth = length spot.origins;
  origins = spot.origins ++ replicate (MAX_LEVELS - length spot.origins) 0;
  position = spot.position;
}

-- where the first process starts
abbrev pub first_place : Place
first_place = place_of outset

-- the later one of two places
abbrev pub later_place : Place → Place → Place
later_place a b = if nat_lt a.position b.position then b else a

-- the latest of a place and of others, from left to right
abbrev pub latest_place : Place → List Place → Place
latest_place a [] = a
latest_place a (b ∷ bs) = latest_place (later_place a b) bs

-- where processes that end at these places meet
abbrev pub meeting_place : List Place → Place
meeting_place [] = first_place
meeting_place (a ∷ bs) = latest_place a bs

-- where the process j starts
unfoldable pub start_place : PlanParts → ℕ → Place
start_place p j = place_of (process_run p j).start

-- where it ends
unfoldable pub end_place : PlanParts → ℕ → Place
end_place p j = place_of (spot_reached (process_run p j).run.last)

-- a place within the limits: its position and its origins are ticks, and not too many levels are open
pub record PlaceFits (place : Place) : Type 0 where
  pub position : place.position ≤ MAX_TICK
  pub depth : place.depth ≤ MAX_LEVELS
  pub origins : length place.origins ≡ MAX_LEVELS
  pub ticks : All (λ origin. origin ≤ MAX_TICK) place.origins
