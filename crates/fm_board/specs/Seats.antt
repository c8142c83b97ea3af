-- What a contract sees of a seat.
use Rattle.std.specs.Prelude.{◌≡◌, ℕ, ◌+◌, ◌-◌, ◌^◌, ◌<◌, ◌≤◌, List, [], ◌∷◌, length, Bool, true, false, Option, Some, None, slice_index_or, slice_set}
use mathlib.Core.Option.{some}
use lib.ListN.{get_elem?}
use Rattle.atomic_table.specs.Seated.{TableId}
use Rattle.fm_line.specs.Piece.{sorted, Ordered}
use Rattle.fm_program.specs.Parts.{PlanParts}
use Rattle.fm_core.specs.declared.floor.Floor.{Floor}
use Rattle.fm_core.specs.declared.sight.Sight.{Sight as Look}
use Rattle.fm_strand.specs.declared.strand.Strand.{Strand}
use Rattle.fm_strand.specs.Course.{end_place, steps_of}
use Rattle.fm_strand.specs.Strand.{steps_left}
use Rattle.fm_board.specs.Words.{place_word}
use Rattle.fm_board.specs.declared.about.About.{About}
use Rattle.fm_board.specs.declared.deposit.Deposit.{Deposit}
use Rattle.fm_board.specs.declared.view.Hold.{Hold}
use Rattle.fm_board.specs.declared.view.View.{View}
use Rattle.fm_board.specs.declared.view.Mind.{Mind}
use Rattle.fm_board.specs.Calls.{HasGiven, Releases}
use Rattle.fm_core.specs.declared.step.Step.{Step}
use Rattle.fm_board.specs.Played.{IsPlayed}
use Rattle.fm_board.specs.Minds.{fresh, settled, stepping, viewing}
use Rattle.fm_board.specs.Plays.{MayRelease, Holder}

-- once all were visited, what seat 0 gathered is, in its order, the next part of the piece
pub record IsNext (v : View) : Type 0 where
  pub ordered : Ordered v.gathered
  pub releases : Releases v (sorted v.gathered)

-- what every seat is told with each step: what it may release, and the run that it is part of
abbrev pub Promise : Mind → Type 0
Promise m = (MayRelease m.view → IsNext m.view) × IsPlayed m

-- what a seat that may owe a release knows
abbrev pub current : Bool → Mind → Mind
current true m = settled m
current false m = m

-- a seat of a table
pub record Post : Type 0 where
  pub table : TableId
  pub id : ℕ
  pub me : Holder

-- a seat that may owe a release, as it counts it
abbrev pub post : TableId → ℕ → Bool → Holder → Post
post t i owes m = record { table = t; id = i; me = (current owes m.0, m.1) }

-- the slots that are out with a seat between two calls: its process's, empty while the berth is in the caller's hands
abbrev pub carried : Option Hold → List (ℕ × Option Deposit)
carried None = []
carried (Some h) = (h.process, None) ∷ []

-- the looks that a seat keeps are its sweep, and it has memory for as many as there are processes
pub record IsSwept (looks : List Look) (capacity : ℕ) (sweep : List Look) (many : ℕ) : Type 0 where
  pub same : looks ≡ sweep
  pub space : many ≤ capacity
  pub within : length sweep ≤ many
  pub few : many < 2 ^ 32

-- a seat keeps the floor that it paced last; and where the last look of seat 0's sweep found nothing to take, a visit by that
-- look visits nothing new
pub record IsLatest (floor : Floor) (idle : Bool) (paced : Floor) (number : ℕ) (visited : List Bool) (sweep : List Look) : Type 0 where
  pub same : floor ≡ paced
  pub again : idle ≡ true → number ≡ 0 → 0 < length sweep → slice_set visited (length sweep - 1) true ≡ visited

-- what a contract sees of a seat: its table, and what it knows
pub record SeatState : Type 0 where
  pub table : TableId
  pub mind : Mind

-- a seat with this view
abbrev pub seeing : SeatState → View → SeatState
seeing s v = record s { mind = viewing s.mind v }

-- a seat that made this step, with this view, and has seen these steps
abbrev pub making : SeatState → Step → View → List Step → SeatState
making s x v xs = record s { mind = stepping s.mind x v xs }

-- the seat is one of this board's
pub record IsOurs (t : TableId) (a : About) (s : SeatState) : Type 0 where
  pub table : s.table ≡ t
  pub plan : s.mind.view.plan ≡ a.plan
  pub room : s.mind.room ≡ a.room
  pub lead : s.mind.view.lead ≡ a.lead
  pub seats : s.mind.view.seats ≡ a.seats

-- a seat of this board that holds nothing
pub record IsIdle (t : TableId) (a : About) (s : SeatState) : Type 0 where
  pub ours : IsOurs t a s
  pub idle : s.mind.view.holds ≡ None

-- seat 0 of a new board, that made so many seats
abbrev pub first_sight : TableId → About → ℕ → SeatState
first_sight t a made = record { table = t; mind = fresh a.plan a.room a.lead a.seats 0 made }

-- the other seats of a new board, in the order of their numbers
pub record AreOthers (t : TableId) (a : About) (n : ℕ) (seats : List SeatState) : Type 0 where
  pub many : length seats + 1 ≡ n
  pub each : (k : ℕ) (d : SeatState) → k < length seats
      → slice_index_or seats k d ≡ record { table = t; mind = fresh a.plan a.room a.lead a.seats (k + 1) 0 }

-- a board of this plan, with a room of r events, a lead of l ticks and n seats
pub record IsBoardOf (a : About) (p : PlanParts) (r l n : ℕ) : Type 0 where
  pub plan : a.plan ≡ p
  pub room : a.room ≡ r
  pub lead : a.lead ≡ l
  pub seats : a.seats ≡ n

-- the strand of a process of a new board
abbrev pub IsFirst : PlanParts → ℕ → Option Strand → Type 0
IsFirst p j None = 0 < j
IsFirst p j (Some s) = (j ≡ 0) × HasGiven p 0 0 0 s × (steps_left p s ≡ steps_of p 0)

-- the slots of the first n processes of a new board
pub record AreRooms (a : About) (n : ℕ) (rooms : List (Option Deposit)) : Type 0 where
  pub many : length rooms ≡ n
  pub each : (j : ℕ) → j < n
      → (stock : Deposit) × (get_elem? rooms j ≡ some (Some stock)) × IsFirst a.plan j stock.strand
      × (stock.outbox ≡ record { room = a.room; events = [] })

-- ---- record

-- what the store of a place word asks
pub record MayWrite (a : About) (s : SeatState) (p i word : ℕ) : Type 0 where
  pub hold : Hold
  pub is : s.mind.view.holds ≡ Some hold
  pub process : hold.process ≡ p
  pub there : p < length a.plan.programs
  pub many : i ≤ hold.written
  pub live : hold.was_ended ≡ false
  pub right : word ≡ place_word (end_place a.plan p) i
