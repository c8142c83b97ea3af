-- What goes on in a pass: which process holds the floor back, and how it is brought on.
use Rattle.std.specs.Prelude.{◌≡◌, ◌⊎◌, ℕ, ◌<◌, ◌≤◌, length, map, true, false, Some, slice_index_or}
use Rattle.fm_line.specs.Line.{greatest, line}
use Rattle.fm_core.specs.Sweep.{sight}
use Rattle.fm_core.specs.declared.due.Due.{Due}
use Rattle.fm_core.specs.declared.due.Due.TheVariants.{Pair}
use Rattle.fm_program.specs.Parts.{PlanParts}
use Rattle.fm_strand.specs.Course.{steps_of}
use Rattle.fm_strand.specs.Strand.{steps_left}
use Rattle.fm_strand.specs.declared.strand.Strand.{Strand}
use Rattle.fm_board.specs.Knowing.{IsWide, Knows}
use Rattle.fm_board.specs.Plays.{Marked}
use Rattle.fm_board.specs.View.{lines_of, processes}
use Rattle.fm_board.specs.declared.view.Hold.{Hold}
use Rattle.fm_board.specs.declared.view.Mind.{Mind}
use Rattle.fm_crew.specs.declared.conductor.Conductor.{Conductor}
use Rattle.fm_line.specs.declared.limits.TheConstants.{LAST_TICK}

-- a seat has a number of steps, a clock and a mark for each process
abbrev pub IsFull : Mind → Type 0
IsFull m = IsWide (processes m.view) m

-- the process has fewer steps left, a later clock, or is at its end, and was not
abbrev pub Moves : ℕ → Mind → Mind → Type 0
Moves p old new =
    (slice_index_or new.left p 0 < slice_index_or old.left p 0)
    ⊎ ((slice_index_or old.known p 0 < slice_index_or new.known p 0)
    ⊎ ((slice_index_or old.over p false ≡ false) × (slice_index_or new.over p false ≡ true)))

-- the process is not at its end, as the seat knows, and its clock is not later than this tick; it was born, or all that
-- it waits for is at its end
pub record HoldsBack (m : Mind) (tick p : ℕ) : Type 0 where
  pub there : p < processes m.view
  pub live : slice_index_or m.over p false ≡ false
  pub soon : slice_index_or m.known p 0 ≤ tick
  pub ready : (slice_index_or m.left p 0 ≤ steps_of m.view.plan p)
      ⊎ Marked m p (length (line (lines_of m.view) p).predecessors)

-- a strand of this process was given back at its end, or with fewer steps left than this one has
abbrev pub WentOn : PlanParts → ℕ → Strand → Mind → Type 0
WentOn plan p s m =
    (slice_index_or m.over p false ≡ true) ⊎ (slice_index_or m.left p 0 < steps_left plan s)

-- the conductor knows no less, and has gathered no less
pub record Grows (old new : Conductor) : Type 0 where
  pub plan : new.seat.mind.view.plan ≡ old.seat.mind.view.plan
  pub knows : Knows old.seat.mind new.seat.mind
  pub gathers : length old.gather.events ≤ length new.gather.events

-- it has gathered more, or the process has moved
abbrev pub GoesOn : ℕ → Conductor → Conductor → Type 0
GoesOn p old new = (length old.gather.events < length new.gather.events) ⊎ Moves p old.seat.mind new.seat.mind

-- it has gathered more, or the process is at its end or has fewer steps left
abbrev pub Advances : ℕ → Conductor → Conductor → Type 0
Advances p old new =
    (length old.gather.events < length new.gather.events)
    ⊎ ((slice_index_or new.seat.mind.over p false ≡ true)
    ⊎ (slice_index_or new.seat.mind.left p 0 < slice_index_or old.seat.mind.left p 0))

-- if the process that it holds holds the floor back, it is brought on
abbrev pub BringsHeld : Due → ℕ → ℕ → Conductor → Conductor → Type 0
BringsHeld due limit p old new =
    (tick : ℕ) (h : Hold) → due ≡ Pair tick p → tick ≤ limit → IsFull old.seat.mind → p < processes old.seat.mind.view
    → old.seat.mind.view.holds ≡ Some h → h.clock ≤ tick → h.was_ended ≡ false
    → h.left ≤ slice_index_or old.seat.mind.left p 0 → Advances p old new

-- if this process holds the floor back, it is brought on
abbrev pub Brings : Due → ℕ → ℕ → Conductor → Conductor → Type 0
Brings due limit p old new =
    (tick : ℕ) → due ≡ Pair tick p → tick ≤ limit → IsFull old.seat.mind → HoldsBack old.seat.mind tick p
    → GoesOn p old new

-- if it was not born, and holds the floor back, it has moved
abbrev pub Starts : ℕ → Conductor → Conductor → Type 0
Starts p old new =
    steps_of old.seat.mind.view.plan p < slice_index_or old.seat.mind.left p 0 → (tick : ℕ)
    → HoldsBack old.seat.mind tick p → Moves p old.seat.mind new.seat.mind

-- so is any of the first n processes
abbrev pub BringsAny : Due → ℕ → ℕ → Conductor → Conductor → Type 0
BringsAny due limit n old new =
    (tick p : ℕ) → due ≡ Pair tick p → p < n → tick ≤ limit → IsFull old.seat.mind → HoldsBack old.seat.mind tick p
    → GoesOn p old new

-- no seat was made besides this one, which is the conductor's
abbrev pub IsLone : Mind → Type 0
IsLone m = m.made ≡ 1

-- ---- sweeps

-- what the sweep says of a process, the seat knows of it; its clock is that of the process, or the greatest of those
-- that it waits for
pub record IsSeen (m : Mind) (j : ℕ) : Type 0 where
  pub ended : slice_index_or m.over j false ≡ (sight m.view.sweep j).ended
  pub clock : slice_index_or m.known j 0 ≤ (sight m.view.sweep j).clock
  pub low : (sight m.view.sweep j).clock ≤ LAST_TICK
  pub ready : (slice_index_or m.left j 0 ≤ steps_of m.view.plan j)
      ⊎ ((sight m.view.sweep j).clock
      ≡ greatest (map (λ q. (sight m.view.sweep q).clock) (line (lines_of m.view) j).predecessors))

-- and so of each of the first n
abbrev pub AreSeen : Mind → ℕ → Type 0
AreSeen m n = (j : ℕ) → j < n → IsSeen m j
