-- What refuses a step.
use Rattle.std.specs.Prelude.{◌≡◌, ℕ, ◌+◌, List, [], ◌∷◌, length, Bool, not, ◌&&◌, ◌||◌, if◌then◌else◌, nat_eq, nat_lt, Option, Some, None, slice_index_or}
use Rattle.fm_line.specs.Line.{line, upper}
use Rattle.fm_line.specs.declared.line.Line.{Line}
use Rattle.fm_core.specs.Floors.{within}
use Rattle.fm_core.specs.Numbers.{any_below}
use Rattle.fm_core.specs.State.{Setting, State, cell, desk, visited, held_by}
use Rattle.fm_core.specs.Tags.{is_unborn, is_out, is_ended, is_claimable}
use Rattle.fm_core.specs.Taking.{is_due, must_take}
use Rattle.fm_core.specs.declared.cell.Cell.{Cell}
use Rattle.fm_core.specs.declared.reason.Reason.{Reason}
use Rattle.fm_core.specs.declared.reason.Reason.TheVariants.{NoSeat, NoProcess, OutOfTurn, Holding, NotClaimable, NotUnborn, PredecessorLive, NotHeld, WrongTake, WrongCount, AboveLead, OverRoom, WrongClock, WrongEnd, NotSwept, StillDue, NotDue, NotVisited}
use Rattle.fm_core.specs.declared.step.Step.{Step}
use Rattle.fm_core.specs.declared.step.Step.TheVariants.{Look, Claim, Start, Record, Recall, Give, Publish, Pace, Release}

-- the reason of the first test that holds
abbrev pub first : List (Bool × Reason) → Option Reason
first [] = None
first (x ∷ xs) = if x.0 then Some x.1 else first xs

-- there is no such seat
abbrev pub no_seat : State → ℕ → Bool
no_seat h s = not (nat_lt s (length h.desks))

-- there is no such process
abbrev pub no_process : State → ℕ → Bool
no_process h p = not (nat_lt p (length h.cells))

-- the seat holds a process
abbrev pub holding : State → ℕ → Bool
holding h s = any_below (length h.cells) (λ p. held_by s (cell h p))

-- some predecessor is not ended
abbrev pub waits : Setting → State → ℕ → Bool
waits g h p =
    any_below (length (line g.lines p).predecessors)
    (λ i. not (is_ended (cell h (slice_index_or (line g.lines p).predecessors i 0)).tag))

-- one of the n next events lies above the seat's paced floor plus the lead
abbrev pub above_lead : Setting → State → ℕ → ℕ → ℕ → Bool
above_lead g h s p n =
    any_below n (λ i. not (within (desk h s).paced g.lead (upper (line g.lines p) ((cell h p).computed + i))))

-- the outbox, less the taken and with the computed events, is above the room
abbrev pub over_room : Setting → Cell → ℕ → ℕ → Bool
over_room g c t n = nat_lt (g.room + c.taken + t) (c.computed + n)

-- the clock falls, or passes the next event or the end, or changes where the process was ended before
abbrev pub wrong_clock : Line → Cell → ℕ → ℕ → Bool
wrong_clock l c n now =
    nat_lt now c.clock || nat_lt (upper l (c.computed + n)) now || is_ended c.tag && not (nat_eq now c.clock)

-- an ended process does not stay ended, or one ends before its end or without its record
abbrev pub wrong_end : Line → Cell → ℕ → ℕ → Bool → Bool
wrong_end l c n now ends =
    is_ended c.tag && not ends
    || ends && (nat_lt (c.computed + n) (length l.events) || not (nat_eq now l.end) || not c.recorded)

-- the process was not visited since the last publish
abbrev pub unvisited : State → ℕ → Bool
unvisited h p = not (visited h p)

-- what refuses a step, in the order in which it is tested
abbrev pub table : Setting → State → Step → List (Bool × Reason)
table g h (Look s p) =
    (no_seat h s, NoSeat)
    ∷ (no_process h p, NoProcess)
    ∷ (not (nat_eq p 0 || nat_eq p (length (desk h s).sweep) || nat_eq (p + 1) (length (desk h s).sweep)), OutOfTurn)
    ∷ []
table g h (Claim s p) =
    (no_seat h s, NoSeat)
    ∷ (no_process h p, NoProcess)
    ∷ (holding h s, Holding)
    ∷ (not (is_claimable s (cell h p).tag), NotClaimable)
    ∷ []
table g h (Start s p) =
    (no_seat h s, NoSeat)
    ∷ (no_process h p, NoProcess)
    ∷ (holding h s, Holding)
    ∷ (not (is_unborn (cell h p).tag), NotUnborn)
    ∷ (waits g h p, PredecessorLive)
    ∷ []
table g h (Record s p) =
    (no_seat h s, NoSeat)
    ∷ (no_process h p, NoProcess)
    ∷ (not (is_out (cell h p).tag && nat_eq (cell h p).seat s), NotHeld)
    ∷ []
table g h (Recall s p) =
    (no_seat h s, NoSeat)
    ∷ (no_process h p, NoProcess)
    ∷ (not (is_ended (cell h p).tag), PredecessorLive)
    ∷ []
table g h (Give s p t n now ends) =
    (no_seat h s, NoSeat)
    ∷ (no_process h p, NoProcess)
    ∷ (not (held_by s (cell h p)), NotHeld)
    ∷ (not (nat_eq t (must_take g h s p)), WrongTake)
    ∷ (
      nat_lt (length (line g.lines p).events) ((cell h p).computed + n) || is_ended (cell h p).tag && nat_lt 0 n,
      WrongCount,
    )
    ∷ (above_lead g h s p n, AboveLead)
    ∷ (over_room g (cell h p) t n, OverRoom)
    ∷ (wrong_clock (line g.lines p) (cell h p) n now, WrongClock)
    ∷ (wrong_end (line g.lines p) (cell h p) n now ends, WrongEnd)
    ∷ []
table g h Publish =
    (not (nat_eq (length (desk h 0).sweep) (length h.cells)), NotSwept)
    ∷ (is_due h.due, StillDue)
    ∷ []
table g h (Pace s) = (no_seat h s, NoSeat) ∷ []
table g h (Release k) =
    (not (is_due h.due), NotDue)
    ∷ (any_below (length h.cells) (unvisited h), NotVisited)
    ∷ (not (nat_eq k (length h.gather)), WrongCount)
    ∷ []

-- why a step is refused; none where it is allowed
abbrev pub reason : Setting → State → Step → Option Reason
reason g h s = first (table g h s)

-- no test of the table holds
abbrev pub Allowed : Setting → State → Step → Type 0
Allowed g h s = reason g h s ≡ None
