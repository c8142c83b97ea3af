-- When words, slots and views stand for a state of the core.
use Rattle.std.specs.Prelude.{nat_eq, ◌≡◌, ◌⊎◌, ℕ, ◌+◌, ◌*◌, ◌<◌, ◌≤◌, List, [], ◌∷◌, ◌++◌, length, true, false, ◌||◌, All, Option, Some, None, slice_index_or}
use mathlib.Core.Option.{some}
use mathlib.Core.Option as maybe
use lib.ListN.{get_elem?}
use Rattle.atomic_table.specs.Table as table
use Rattle.fm_line.specs.Line.{line}
use Rattle.fm_core.specs.Invariant.{Sound}
use Rattle.fm_core.specs.Effects.{Legal, run}
use Rattle.fm_core.specs.State.{Setting, State, cell, cell_in, desk, no_desk, held_by, opening}
use Rattle.fm_core.specs.Tags.{is_ended, is_held, is_unborn}
use Rattle.fm_core.specs.Taking.{outbox}
use Rattle.fm_core.specs.declared.cell.Cell.{Cell}
use Rattle.fm_core.specs.declared.floor.Floor.{Floor}
use Rattle.fm_core.specs.declared.step.Step.{Step}
use Rattle.fm_core.specs.declared.step.Step.TheVariants.{Release}
use Rattle.fm_program.specs.Process.{plan_lines}
use Rattle.fm_strand.specs.declared.strand.Strand.{Strand}
use Rattle.fm_strand.specs.Strand.{steps_left}
use Rattle.fm_board.specs.declared.about.About.{About}
use Rattle.fm_board.specs.declared.deposit.Deposit.{Deposit}
use Rattle.fm_board.specs.declared.view.Hold.{Hold}
use Rattle.fm_board.specs.declared.view.View.{View}
use Rattle.fm_board.specs.declared.view.Mind.{Mind}
use Rattle.fm_board.specs.Calls.{HasGiven}
use Rattle.fm_board.specs.Runs.{BeginsWith, by_seat}
use Rattle.fm_board.specs.Words.{IsLow, spelt, word_at, floor_word, place_at, place_word}
use Rattle.fm_strand.specs.Course.{end_place, steps_of}

-- the setting of a board
abbrev pub setting : About → Setting
setting a = record { lines = plan_lines a.plan; room = a.room; lead = a.lead }

-- how many processes there are
abbrev pub count : About → ℕ
count a = length a.plan.programs

-- ---- words

-- a process that nobody holds shows no seat, and one that is not born no clock
pub record Shown (c : Cell) : Type 0 where
  pub idle : is_held c.tag ≡ false → c.seat ≡ 0
  pub unborn : is_unborn c.tag ≡ true → c.clock ≡ 0

-- word 0 is the floor, and each process has its word
pub record Spelt (a : About) (words : List ℕ) (cells : List Cell) (f : Floor) : Type 0 where
  pub many : length words ≡ 2 + 10 * count a
  pub floor : slice_index_or words 0 0 ≡ floor_word f
  pub low : IsLow f
  pub spelt : (j : ℕ) → j < length cells → slice_index_or words (word_at j) 0 ≡ spelt (cell_in cells j)
  pub shown : (j : ℕ) → j < length cells → Shown (cell_in cells j)
  pub placed : (j i : ℕ) → j < length cells → (cell_in cells j).recorded ≡ true → i < 9
      → slice_index_or words (place_at j i) 0 ≡ place_word (end_place a.plan j) i

-- ---- slots

-- a process that nobody holds: an unborn one has no strand, any other has one
abbrev pub StrandAt : About → ℕ → Cell → Option Strand → Type 0
StrandAt a j c None = is_unborn c.tag ≡ true
StrandAt a j c (Some s) =
    HasGiven a.plan j c.computed c.clock s × (is_ended c.tag ≡ true → steps_left a.plan s ≡ 0) ×
    (is_unborn c.tag ≡ false)

-- the slot of a process that nobody holds
pub record AtHome (a : About) (j : ℕ) (c : Cell) (stock : Deposit) : Type 0 where
  pub strand : StrandAt a j c stock.strand
  pub box : stock.outbox ≡ record { room = a.room; events = outbox (line (plan_lines a.plan) j) c }
  pub recorded : c.recorded ≡ is_ended c.tag

-- each process that nobody holds is at home
pub record Housed (a : About) (homes : List (maybe.Option (Option Deposit))) (cells : List Cell) : Type 0 where
  pub many : length homes ≡ count a
  pub home : (j : ℕ) → j < length cells → is_held (cell_in cells j).tag ≡ false
      → (stock : Deposit) × (get_elem? homes j ≡ some (some (Some stock))) × AtHome a j (cell_in cells j) stock

-- ---- views

-- what a seat's view says of the process that it holds
pub record IsHoldOf (c : Cell) (h : Hold) : Type 0 where
  pub computed : h.computed ≡ c.computed
  pub taken : h.taken ≡ c.taken
  pub at : h.clock ≡ c.clock
  pub was_ended : h.was_ended ≡ is_ended c.tag
  pub recorded : (h.recorded || h.was_ended) ≡ c.recorded

-- what a view holds is what the state says that its seat holds
abbrev pub HoldsIn : State → ℕ → Option Hold → Type 0
HoldsIn h s None = (j : ℕ) → j < length h.cells → held_by s (cell h j) ≡ false
HoldsIn h s (Some x) =
    (x.process < length h.cells) × (held_by s (cell h x.process) ≡ true) × IsHoldOf (cell h x.process) x

-- the view of the seat s
pub record IsViewOf (a : About) (h : State) (s : ℕ) (v : View) : Type 0 where
  pub plan : v.plan ≡ a.plan
  pub lead : v.lead ≡ a.lead
  pub seats : v.seats ≡ a.seats
  pub number : v.number ≡ s
  pub holds : HoldsIn h s v.holds
  pub sweep : v.sweep ≡ (desk h s).sweep
  pub paced : v.paced ≡ (desk h s).paced

-- what seat 0's view says besides
pub record IsSightOfZero (g : Setting) (h : State) (v : View) : Type 0 where
  pub lines : plan_lines v.plan ≡ g.lines
  pub due : v.due ≡ h.due
  pub visited : v.visited ≡ h.visited
  pub gathered : v.gathered ≡ h.gather
  pub released : v.released ≡ length h.released
  pub published : v.published ≡ h.floor

-- the seat k, and what it knows
pub record IsSeat (a : About) (h : State) (k : ℕ) (m : Mind) : Type 0 where
  pub here : k < length h.desks
  pub is : IsViewOf a h k m.view
  pub room : m.room ≡ a.room
  pub zero : k ≡ 0 → IsSightOfZero (setting a) h m.view
  -- what it saw of a process is not ahead of it
  pub wide : length m.over ≡ count a
  pub known : (p : ℕ) → slice_index_or m.known p 0 ≤ (cell h p).clock
  pub over : (p : ℕ) → slice_index_or m.over p false ≡ true → is_ended (cell h p).tag ≡ true

-- a seat that was not made yet
pub record IsUnmade (h : State) (k : ℕ) : Type 0 where
  pub desk : desk h k ≡ no_desk
  pub free : (p : ℕ) → p < length h.cells → held_by k (cell h p) ≡ false

-- each view is of the seat with its number, and seat 0 counts them
pub record Seated (a : About) (views : List Mind) (h : State) : Type 0 where
  pub viewed : (k : ℕ) (m : Mind) → get_elem? views k ≡ some m → IsSeat a h k m
  pub unmade : (k : ℕ) → length views ≤ k → k < length h.desks → IsUnmade h k
  pub made : (m : Mind) → get_elem? views 0 ≡ some m → m.made ≡ length views

-- the words of its end place that a seat wrote are right
abbrev pub Written : About → List ℕ → List Mind → Type 0
Written a words views =
    (k : ℕ) (m : Mind) (x : Hold) (i : ℕ) → get_elem? views k ≡ some m → m.view.holds ≡ Some x → i < x.written → i < 9
    → slice_index_or words (place_at x.process i) 0 ≡ place_word (end_place a.plan x.process) i

-- where the halt word lies
abbrev pub halt_at : About → ℕ
halt_at a = 1 + 10 * count a

-- the halt word is 1 exactly where seat 0 halted
abbrev pub Halted : About → List ℕ → List Mind → Type 0
Halted a words views =
    (m : Mind) → get_elem? views 0 ≡ some m → nat_eq (slice_index_or words (halt_at a) 0) 1 ≡ m.view.halted

-- ---- the run

-- the state in which a board begins
abbrev pub beginning : About → State
beginning a = opening (length (plan_lines a.plan)) a.seats

-- some seat has seen all of these steps, or all but the last one: a release that seat 0 owed, and made together with a step
-- on a word that is none of the core's
pub record IsSeen (views : List Mind) (steps : List Step) : Type 0 where
  pub seat : ℕ
  pub mind : Mind
  pub is : get_elem? views seat ≡ some mind
  pub all : (steps ≡ mind.log.seen) ⊎ ((n : ℕ) × (steps ≡ mind.log.seen ++ Release n ∷ []))

-- from the beginning a run of allowed steps leads to this state; each seat made those of its steps that it knows of, in
-- their order, and no seat that was not made yet made any; the run begins with what any seat has seen, and some seat has
-- seen it whole, but for a release at its end
pub record IsRun (a : About) (views : List Mind) (h : State) : Type 0 where
  pub steps : List Step
  pub legal : Legal (setting a) (beginning a) steps
  pub ends : run (setting a) (beginning a) steps ≡ h
  pub made : (k : ℕ) (m : Mind) → get_elem? views k ≡ some m → m.log.mine ≡ by_seat k steps
  pub none : (k : ℕ) → length views ≤ k → by_seat k steps ≡ []
  pub seen : (k : ℕ) (m : Mind) → get_elem? views k ≡ some m → BeginsWith steps m.log.seen
  pub whole : IsSeen views steps

-- ---- the rule

-- a table of the board
abbrev pub Table : Type 0
Table = table.State (Option Deposit) Mind

-- the words, the slots and the views stand for this state
pub record StandsFor (a : About) (s : Table) (h : State) : Type 0 where
  pub crew : length h.desks ≡ a.seats
  pub words : Spelt a s.words h.cells h.floor
  pub homes : Housed a s.homes h.cells
  pub views : Seated a s.views h
  pub wrote : Written a s.words s.views
  pub halt : Halted a s.words s.views

-- how many steps are left of each process, and one more before its birth
pub record Going (a : About) (s : Table) (h : State) : Type 0 where
  pub left : ℕ → ℕ
  -- of who is at home, and of who is held, as its seat was told
  pub home : (j : ℕ) (stock : Deposit) (x : Strand) → get_elem? s.homes j ≡ some (some (Some stock))
      → stock.strand ≡ Some x
      → steps_left a.plan x ≡ left j
  pub held : (k : ℕ) (m : Mind) → get_elem? s.views k ≡ some m → (x : Hold) → m.view.holds ≡ Some x
      → x.left ≡ left x.process
  -- no seat knows of fewer
  pub known : (k : ℕ) (m : Mind) → get_elem? s.views k ≡ some m → (p : ℕ) → p < count a
      → left p ≤ slice_index_or m.left p 0
  pub most : (p : ℕ) → p < count a → left p ≤ steps_of a.plan p + 1
  -- who is born has no more than its program has
  pub born : (p : ℕ) → p < length h.cells → is_unborn (cell h p).tag ≡ false → left p ≤ steps_of a.plan p
  pub unborn : (p : ℕ) → p < length h.cells → is_unborn (cell h p).tag ≡ true → steps_of a.plan p < left p
  -- what waits in an outbox is not after the clock
  pub early : (p : ℕ) → p < length h.cells
      → All (λ e. e.time ≤ (cell h p).clock) (outbox (line (plan_lines a.plan) p) (cell h p))

-- where seat 0 is the only one, the word that it saw last is still there, unless it has changed it
abbrev pub Alone : About → Table → Type 0
Alone a s =
    (m : Mind) → get_elem? s.views 0 ≡ some m → m.made ≡ 1 → m.at < count a
    → slice_index_or s.words (word_at m.at) 0 ≡ m.last

-- they stand for a sound state, to which a run of the core leads in which each seat made the steps that it knows of
pub record StandsForSome (a : About) (s : Table) : Type 0 where
  pub core : State
  pub sound : Sound (setting a) core
  pub stands : StandsFor a s core
  pub history : IsRun a s.views core
  pub going : Going a s core
  pub alone : Alone a s
