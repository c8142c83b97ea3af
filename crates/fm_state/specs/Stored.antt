-- The state of the core in vectors whose memory is taken once.
use Rattle.std.specs.Prelude.{◌≡◌, ℕ, ◌*◌, ◌^◌, ◌<◌, ◌≤◌, List, length, cond, vec_capacity, slice_index_or}
use Rattle.std.specs.List.{count_by}
use Rattle.fm_line.specs.Line.{total}
use Rattle.fm_core.specs.State.{Setting, State, held_by}
use Rattle.fm_core.specs.State as core
use Rattle.fm_core.specs.Invariant.{Sound}
use Rattle.fm_core.specs.Sweep.{least}
use Rattle.fm_core.specs.declared.cell.Cell.{Cell}
use Rattle.fm_state.specs.Limits.{IsSetting}
use Rattle.fm_state.specs.declared.desk.Desk.{Desk}

-- the state, and for how many events there is memory in the gather and in the released list
pub record Stored : Type 0 where
  pub state : State
  pub gathers : ℕ
  pub releases : ℕ

-- what a seat's vector shows
abbrev pub desk_of : Desk → core.Desk
desk_of d = record { sweep = d.sweep.items; paced = d.paced }

-- a sweep with memory for so many looks, and its least pair
pub record IsDesk (processes : ℕ) (d : Desk) : Type 0 where
  pub memory : processes ≤ vec_capacity d.sweep
  pub least : d.least ≡ least d.sweep.items

-- the same of each seat
abbrev pub AreDesks : ℕ → List Desk → Type 0
AreDesks processes desks = (s : ℕ) (d : Desk) → s < length desks → IsDesk processes (slice_index_or desks s d)

-- 1 where the seat holds the process, else 0
abbrev pub hold : ℕ → Cell → ℕ
hold s c = cond (held_by s c) 1 0

-- how many of the processes each seat holds
abbrev pub AreCounted : List Cell → List ℕ → Type 0
AreCounted cells holds =
    (s : ℕ) → s < length holds → slice_index_or holds s 0 ≡ count_by (held_by s) cells

-- what holds of the vectors: desks as they must be, one mark a process, counts of 32 bits, and what each seat holds
pub record IsTables (cells : List Cell) (marks : ℕ) (desks : List Desk) (holds : List ℕ) : Type 0 where
  pub swept : AreDesks (length cells) desks
  pub marked : marks ≡ length cells
  pub few : length cells < 2 ^ 32
  pub few_seats : length desks < 2 ^ 32
  pub seats : length holds ≡ length desks
  pub counted : AreCounted cells holds

-- rules within the limits, a sound state, and memory for all that may be gathered and released
pub record IsHall (g : Setting) (stored : Stored) : Type 0 where
  pub setting : IsSetting g
  pub sound : Sound g stored.state
  pub gathers : stored.gathers ≡ length g.lines * g.room
  pub releases : stored.releases ≡ total g.lines
