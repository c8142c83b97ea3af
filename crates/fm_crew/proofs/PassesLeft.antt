-- How many passes a conductor still makes at most.
use Rattle.std.specs.Prelude.{ℕ, ◌+◌, ◌-◌, ◌*◌, ◌≤◌, length, false, not, slice_index_or}
use Rattle.fm_line.specs.Line.{sum_below}
use Rattle.fm_line.specs.Piece.{piece}
use Rattle.fm_line.specs.declared.limits.TheConstants.{LAST_TICK}
use Rattle.fm_core.specs.Numbers.{bit}
use Rattle.fm_core.specs.declared.due.Due.{Due}
use Rattle.fm_core.specs.declared.due.Due.TheVariants.{Nothing, Pair, Everything}
use Rattle.fm_board.specs.View.{lines_of, processes}
use Rattle.fm_board.specs.declared.view.Mind.{Mind}
use Rattle.fm_crew.specs.Onward.{HoldsBack}

-- the process that the due pair names holds the floor back at the pair's tick, which is within the limit
abbrev pub IsHeldBack : Due → ℕ → Mind → Type 0
IsHeldBack Nothing limit m = Unit {0}
IsHeldBack (Pair tick p) limit m = (tick ≤ limit) × HoldsBack m tick p
IsHeldBack Everything limit m = Unit {0}

-- what may still come of a process, as a seat knows it: its steps, the ticks of its clock, and its end
abbrev pub worth : Mind → ℕ → ℕ
worth m p =
    slice_index_or m.left p 0 + (LAST_TICK - slice_index_or m.known p 0) + bit (not (slice_index_or m.over p false))

-- what may still come of all processes, and the events that are to be released
abbrev pub to_come : Mind → ℕ
to_come m = sum_below (processes m.view) (worth m) + (length (piece (lines_of m.view)) - m.view.released)

-- the most passes that are still made
abbrev pub passes_left : Due → Mind → ℕ
passes_left Nothing m = 2 * to_come m + 2
passes_left (Pair tick p) m = 2 * to_come m + 1
passes_left Everything m = 0
