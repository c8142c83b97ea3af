-- What is due, and what a give takes of an outbox.
use Rattle.std.specs.Prelude.{ℕ, ◌+◌, ◌-◌, List, [], ◌∷◌, take, drop, Bool, true, false, not, ◌&&◌, ◌||◌, if◌then◌else◌, nat_eq, nat_lt, Option, Some, None}
use Rattle.fm_line.specs.Line.{line}
use Rattle.fm_line.specs.declared.line.Line.{Line}
use Rattle.fm_core.specs.Numbers.{bit}
use Rattle.fm_core.specs.State.{Setting, State, cell, visited}
use Rattle.fm_core.specs.declared.cell.Cell.{Cell}
use Rattle.fm_core.specs.declared.due.Due.{Due}
use Rattle.fm_core.specs.declared.due.Due.TheVariants.{Nothing, Pair, Everything}
use Rattle.fm_msg.specs.Event.{TimedMessage}

-- whether something is due
abbrev pub is_due : Due → Bool
is_due Nothing = false
is_due d = true

-- whether an event of this time and process is due
abbrev pub covers : Due → TimedMessage → Bool
covers Nothing e = false
covers (Pair m i) e = nat_lt e.time m || nat_eq e.time m && not (nat_lt i e.process)
covers Everything e = true

-- how many of these events are due
abbrev pub count_due : Due → List TimedMessage → ℕ
count_due d [] = 0
count_due d (e ∷ es) = bit (covers d e) + count_due d es

-- the events that are computed and not taken
abbrev pub outbox : Line → Cell → List TimedMessage
outbox l c = take (c.computed - c.taken) (drop c.taken l.events)

-- what a give takes: what is due of the outbox, where seat 0 gives an unvisited process, else nothing
abbrev pub must_take_at : Due → Bool → ℕ → Line → Cell → ℕ
must_take_at d v s l c = if nat_eq s 0 && not v then count_due d (outbox l c) else 0

-- what a give by this seat must take of this process
abbrev pub must_take : Setting → State → ℕ → ℕ → ℕ
must_take g h s p = must_take_at h.due (visited h p) s (line g.lines p) (cell h p)

-- what a sweep's least pair makes due: the events up to it, or all where there is no pair
abbrev pub due_of : Option (ℕ × ℕ) → Due
due_of None = Everything
due_of (Some a) = Pair a.0 a.1
