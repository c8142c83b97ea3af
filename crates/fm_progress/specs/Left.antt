-- What is left to do.
use Rattle.std.specs.Prelude.{◌≡◌, ℕ, ◌+◌, ◌-◌, ◌<◌, ◌⊎◌, List, [], ◌∷◌, length, Bool, true, false, not, ◌&&◌, ◌||◌, if◌then◌else◌, nat_eq, nat_lt, Option, Some, None}
use Rattle.fm_line.specs.Line.{line, upper, sum_below, total}
use Rattle.fm_line.specs.declared.line.Line.{Line}
use Rattle.fm_core.specs.Effects.{after}
use Rattle.fm_core.specs.Floors.{floor_eq, within}
use Rattle.fm_core.specs.Numbers.{bit, find_below, any_below, bool_eq}
use Rattle.fm_core.specs.State.{Setting, State, cell, desk, visited, held_by}
use Rattle.fm_core.specs.Steps.{Allowed, unvisited}
use Rattle.fm_core.specs.Sweep.{sight, sighted, bound}
use Rattle.fm_core.specs.Tags.{is_unborn, is_home, is_out, is_at_hand, is_ended, is_held}
use Rattle.fm_core.specs.Taking.{is_due, count_due, outbox, must_take}
use Rattle.fm_core.specs.declared.cell.Cell.{Cell}
use Rattle.fm_core.specs.declared.due.Due.{Due}
use Rattle.fm_core.specs.declared.floor.Floor.{Floor}
use Rattle.fm_core.specs.declared.sight.Sight.{Sight}
use Rattle.fm_core.specs.declared.step.Step.{Step}
use Rattle.fm_core.specs.declared.step.Step.TheVariants.{Record, Give}

-- the clock is the time of the next event, or the end where none is left
abbrev pub ready : Line → Cell → Bool
ready l c = not (is_unborn c.tag) && nat_eq c.clock (upper l c.computed)

-- what one process still owes: its events to compute and to take, its birth, its clock, its record and its end
abbrev pub owed_of : Line → Cell → ℕ
owed_of l c =
    (length l.events - c.computed) + (length l.events - c.taken) + bit (is_unborn c.tag) + bit (not (ready l c))
    + bit (not c.recorded) + bit (not (is_ended c.tag))

-- all that is owed, with the events that are not released
abbrev pub owed : Setting → State → ℕ
owed g h = sum_below (length h.cells) (λ p. owed_of (line g.lines p) (cell h p)) + (total g.lines - length h.released)

-- the next event may be computed under this floor
abbrev pub next_within : Setting → Floor → ℕ → Cell → Bool
next_within g f p c = within f g.lead (upper (line g.lines p) c.computed)

-- an event is left to compute
abbrev pub events_left : Setting → ℕ → Cell → Bool
events_left g p c = nat_lt c.computed (length (line g.lines p).events)

-- at home, and not ready, without events left, or with an event that may be computed under the floor
abbrev pub works_at : Setting → Floor → ℕ → Cell → Bool
works_at g f p c =
    is_at_hand c.tag
    && (not (ready (line g.lines p) c) || not (events_left g p c) || is_home c.tag && next_within g f p c)

-- whether there is work at the process
abbrev pub workable : Setting → State → ℕ → Bool
workable g h p = works_at g h.floor p (cell h p)

-- the next event is left, under the seat's floor, and has a place in the outbox less what must be taken
abbrev pub may_compute_at : Setting → Floor → ℕ → Cell → ℕ → Bool
may_compute_at g paced p c t =
    events_left g p c && (next_within g paced p c && nat_lt c.computed (g.room + c.taken + t))

-- the next event may be computed in this hold
abbrev pub may_compute : Setting → State → ℕ → Bool
may_compute g h p = may_compute_at g (desk h (cell h p).seat).paced p (cell h p) (must_take g h (cell h p).seat p)

-- the process is held, and an allowed record or give of it lowers what is owed
abbrev pub can_lower_at : Setting → Floor → ℕ → Cell → ℕ → Bool
can_lower_at g paced p c t =
    is_held c.tag
    && (nat_lt 0 t
    || is_out c.tag
    && (not c.recorded || not (ready (line g.lines p) c) || not (events_left g p c)
    || may_compute_at g paced p c t))

-- an allowed record or give of the process lowers what is owed
abbrev pub can_lower : Setting → State → ℕ → Bool
can_lower g h p = can_lower_at g (desk h (cell h p).seat).paced p (cell h p) (must_take g h (cell h p).seat p)

-- seat 0 holds such a process, of which this says whether it was visited, while something is due
abbrev pub spare_at : Due → Bool → Cell → Bool
spare_at d v c = held_by 0 c && (not v && is_due d)

-- seat 0 holds it unvisited while something is due
abbrev pub is_spare : State → ℕ → Bool
is_spare h p = spare_at h.due (visited h p) (cell h p)

-- a due event in an unvisited outbox
abbrev pub waits_at : Setting → Due → ℕ → Bool → Cell → Bool
waits_at g d p v c = not v && nat_lt 0 (count_due d (outbox (line g.lines p) c))

-- a due event waits in the outbox of an unvisited process
abbrev pub waits_for_visit : Setting → State → ℕ → Bool
waits_for_visit g h p = waits_at g h.due p (visited h p) (cell h p)

-- while something is due: there is work, or a due event to be visited, or a gathered event
abbrev pub stirred : Setting → State → Bool
stirred g h =
    any_below (length h.cells) (workable g h) || any_below (length h.cells) (waits_for_visit g h)
    || nat_lt 0 (length h.gather)

-- what the sweep says of i is not so, or not so any more
abbrev pub stale_in : Setting → State → List Sight → ℕ → Bool
stale_in g h seen i =
    not (nat_eq (sight seen i).clock (bound g h i))
    || not (bool_eq (sight seen i).ended (is_ended (cell h i).tag))

-- the same, from what the sweep says of the predecessors alone: a test that needs no bounds
abbrev pub changed_in : Setting → State → List Sight → ℕ → Bool
changed_in g h seen i =
    not (nat_eq (sight seen i).clock (sighted g h seen i).clock)
    || not (bool_eq (sight seen i).ended (is_ended (cell h i).tag))

-- something in this sweep is not so, or not so any more
abbrev pub any_stale_in : Setting → State → List Sight → Bool
any_stale_in g h seen = any_below (length seen) (stale_in g h seen)

-- the sweep of seat 0 is not fresh
abbrev pub any_stale : Setting → State → Bool
any_stale g h = any_stale_in g h (desk h 0).sweep

-- the looks until a seat with so long a sweep has looked at the process t
abbrev pub looks_to : ℕ → ℕ → ℕ
looks_to next t = if nat_eq t 0 || nat_eq (t + 1) next then 1 else if nat_lt t next then t + 1 else t + 1 - next

-- the looks until this process is looked at; 0 where there is none
abbrev pub looks_in : List Sight → Option ℕ → ℕ
looks_in seen None = 0
looks_in seen (Some t) = looks_to (length seen) t

-- 0 where an allowed record or give lowers what is owed, else 1
abbrev pub idle : Setting → State → ℕ
idle g h = bit (not (any_below (length h.cells) (can_lower g h)))

-- 1 for a held process that is not spare
abbrev pub counts_at : Due → Bool → Cell → ℕ
counts_at d v c = bit (is_held c.tag && not (spare_at d v c))

-- the held processes, without one that seat 0 holds to visit it
abbrev pub held_count : State → ℕ
held_count h = sum_below (length h.cells) (λ p. counts_at h.due (visited h p) (cell h p))

-- while something is due 0 where it stirs, else 3; while nothing is due 1 where the sweep is fresh, else 2
abbrev pub phase : Setting → State → ℕ
phase g h = if is_due h.due then (if stirred g h then 0 else 3) else (if any_stale g h then 2 else 1)

-- while something is due the unvisited processes, else the looks that the sweep lacks
abbrev pub lacking : State → ℕ
lacking h =
    if is_due h.due then sum_below (length h.cells) (λ p. bit (unvisited h p))
    else length h.cells - length (desk h 0).sweep

-- 0 where seat 0 holds an unvisited process while something is due, else 1
abbrev pub empty_handed : State → ℕ
empty_handed h = bit (not (any_below (length h.cells) (is_spare h)))

-- while something is due, the looks until seat 0 has looked at the least unvisited process
abbrev pub looks_away : State → ℕ
looks_away h = if is_due h.due then looks_in (desk h 0).sweep (find_below (length h.cells) (unvisited h)) else 0

-- 1 where the paced floor of seat 0 is not the floor, else 0
abbrev pub unpaced : State → ℕ
unpaced h = bit (not (floor_eq (desk h 0).paced h.floor))

-- whether the step is a record or a give
abbrev pub returns_it : Step → Bool
returns_it (Record s p) = true
returns_it (Give s p t n now ends) = true
returns_it s = false

-- some allowed record or give lowers what is owed
pub record Lowerable (g : Setting) (h : State) : Type 0 where
  pub step : Step
  pub kind : returns_it step ≡ true
  pub allowed : Allowed g h step
  pub lowers : owed g (after g h step) < owed g h

-- what is left, compared from the left
abbrev pub left : Setting → State → List ℕ
left g h = owed g h ∷ idle g h ∷ held_count h ∷ phase g h ∷ lacking h ∷ empty_handed h ∷ looks_away h ∷ unpaced h ∷ []

-- less at the first number that differs
abbrev pub Less : List ℕ → List ℕ → Type 0
Less [] ys = ⊥
Less (x ∷ xs) [] = ⊥
Less (x ∷ xs) (y ∷ ys) = (x < y) ⊎ ((x ≡ y) × Less xs ys)
