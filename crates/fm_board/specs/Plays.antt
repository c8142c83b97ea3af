-- What each step on a word tells the seat that makes it.
use Rattle.std.specs.Prelude.{nat_eq, ◌≡◌, ◌≢◌, ℕ, ◌+◌, ◌<◌, ◌≤◌, List, [], ◌∷◌, length, true, false, Option, Some, None, slice_index_or}
use Rattle.atomic_table.specs.Table.{Me, Step, rest}
use Rattle.fm_line.specs.Line.{line, start}
use Rattle.fm_line.specs.declared.limits.TheConstants.{LAST_TICK}
use Rattle.fm_core.specs.Floors.{floor_of}
use Rattle.fm_core.specs.Sweep.{least}
use Rattle.fm_core.specs.Tags.{is_ended, is_held, is_unborn}
use Rattle.fm_core.specs.Taking.{due_of, is_due}
use Rattle.fm_core.specs.declared.step.Step.TheVariants.{Claim, Start, Record, Publish, Pace}
use Rattle.fm_core.specs.declared.floor.Floor.{Floor}
use Rattle.fm_core.specs.declared.floor.Floor.TheVariants.{Done}
use Rattle.fm_core.specs.declared.tag.Tag.{Tag}
use Rattle.fm_core.specs.declared.tag.Tag.TheVariants.{Out, Unborn}
use Rattle.fm_program.specs.Parts.{PlanParts}
use Rattle.fm_buffer.specs.Outbox.{EventQueue}
use Rattle.fm_strand.specs.declared.strand.Strand.{Strand}
use Rattle.fm_board.specs.declared.deposit.Deposit.{Deposit}
use Rattle.fm_board.specs.declared.view.Hold.{Hold}
use Rattle.fm_board.specs.declared.view.View.{View}
use Rattle.fm_board.specs.declared.view.Log.{Log}
use Rattle.fm_board.specs.declared.view.Mind.{Mind}
use Rattle.fm_board.specs.Calls.{IsHold}
use Rattle.fm_board.specs.Knowing.{Knows}
use Rattle.fm_board.specs.Minds.{did, did_look, noticed, recalled, spotted, stepping, turned, viewing}
use Rattle.fm_board.specs.Runs.{Extends}
use Rattle.fm_board.specs.View.{gave, giving, holding, lines_of, looked, noted, process_of, processes, published, was_visited}
use Rattle.fm_board.specs.Words.{IsLow, IsWord, floor_word, spell, word_at, place_at, place_word}
use Rattle.fm_strand.specs.Course.{end_place, steps_of}
use Rattle.fm_strand.specs.Strand.{steps_left}
use Rattle.fm_core.specs.declared.limits.TheConstants.{MAX_SEATS}

-- a seat's mind, and the slots that are out with it
abbrev pub Holder : Type 0
Holder = Me (Option Deposit) Mind

-- what a word that was found tells: it is not older than what the seat saw before
pub record Tells (m : Mind) (p : ℕ) (t : Tag) (c : ℕ) : Type 0 where
  pub on : slice_index_or m.known p 0 ≤ c
  pub still : slice_index_or m.over p false ≡ true → is_ended t ≡ true
  pub end : is_ended t ≡ true → c ≡ (line (lines_of m.view) p).end
  pub done : m.view.number ≡ 0 → m.view.published ≡ Done → is_ended t ≡ true
  pub unborn : is_unborn t ≡ true → steps_of m.view.plan p < slice_index_or m.left p 0
  pub low : c ≤ LAST_TICK
  -- where there is no other seat, no process is in other hands
  pub alone : m.made ≡ 1 → m.view.number ≡ 0 → m.view.holds ≡ None → is_held t ≡ false

-- the word of the process was found; the view is then what f says of its tag and clock, and the log what g says of the
-- tag
pub record Finds (m : Holder) (p r : ℕ) (f : Tag → ℕ → View) (g : Tag → Log) (m' : Holder) : Type 0 where
  pub word : IsWord r
  pub out : m'.1 ≡ m.1
  pub wide : length m.0.over ≡ processes m.0.view
  -- where there is no other seat, it is the word that the seat saw last of the process
  pub same : m.0.made ≡ 1 → m.0.view.number ≡ 0 → m.0.at ≡ p → r ≡ m.0.last
  pub mind : (t : Tag) (c s : ℕ) → s < MAX_SEATS → r ≡ spell t c s → m'.0 ≡ spotted m.0 p t c r (f t c) (g t)
  pub tells : (t : Tag) (c s : ℕ) → s < MAX_SEATS → r ≡ spell t c s → Tells m.0 p t c
  pub extends : Extends m.0.view.number m.0.log m'.0.log

-- ---- look and pace

-- the load of a process's word
abbrev pub looks : Step (Option Deposit) → Holder → ℕ → Holder → Type 0
looks st m r m' = (p : ℕ) → st.word ≡ word_at p
    → Finds m p r (looked m.0.view p) (λ t. did_look m.0 p t m'.0.log.seen) m'

-- the load of the floor
pub record Paces (m : Holder) (r : ℕ) (m' : Holder) : Type 0 where
  pub floor : Floor
  pub low : IsLow floor
  pub word : r ≡ floor_word floor
  -- seat 0 finds what it published last
  pub own : m.0.view.number ≡ 0 → floor ≡ m.0.view.published
  pub out : m'.1 ≡ m.1
  pub mind : (f : Floor) → IsLow f → r ≡ floor_word f
      → m'.0 ≡ stepping m.0 (Pace m.0.view.number) (record m.0.view { paced = f }) m'.0.log.seen
  pub extends : Extends m.0.view.number m.0.log m'.0.log

-- it is found, and the seat keeps it
abbrev pub paces : Step (Option Deposit) → Holder → ℕ → Holder → Type 0
paces st m r m' = Paces m r m'

-- ---- claim

-- the seat was handed the process, and what was in its slot
pub record Hands (m : Holder) (p : ℕ) (t : Tag) (c r : ℕ) (m' : Holder) : Type 0 where
  pub hold : Hold
  pub strand : Strand
  pub box : EventQueue
  pub is : IsHold m.0.view.plan m.0.room p hold strand box
  pub was_ended : hold.was_ended ≡ is_ended t
  pub clock : hold.clock ≡ c
  pub behind : hold.left ≤ slice_index_or m.0.left p 0
  pub tells : Tells m.0 p t c
  pub mind : m'.0
      ≡ turned (spotted m.0 p t c r (holding m.0.view hold) (did m.0 (Claim m.0.view.number p) m'.0.log.seen))
  pub extends : Extends m.0.view.number m.0.log m'.0.log
  pub out : m'.1 ≡ (p, Some (record { strand = Some strand; outbox = box })) ∷ m.1

-- the exchange of a process's word: it was the expected one, or another
abbrev pub claims : Step (Option Deposit) → Holder → ℕ → Holder → Type 0
claims st m r m' = (p : ℕ) → st.word ≡ word_at p
    → (r ≡ st.first → (t : Tag) (c s : ℕ) → s < MAX_SEATS → st.first ≡ spell t c s → Hands m p t c r m')
    × (r ≢ st.first → Finds m p r (λ t c. m.0.view) (λ t. m.0.log) m')

-- ---- start

-- the load of a predecessor's word
abbrev pub recalls : Step (Option Deposit) → Holder → ℕ → Holder → Type 0
recalls st m r m' = (p : ℕ) → st.word ≡ word_at p → Finds m p r (λ t c. m.0.view) (recalled m.0 p m'.0.log.seen) m'

-- each process that this one waits for is marked as ended
abbrev pub Marked : Mind → ℕ → ℕ → Type 0
Marked m p n =
    (i : ℕ) → i < n → slice_index_or m.over (slice_index_or (line (lines_of m.view) p).predecessors i 0) false ≡ true

-- the seat was handed a process that nobody had
pub record HandsUnborn (m : Holder) (p : ℕ) (m' : Holder) : Type 0 where
  pub hold : Hold
  pub stock : Deposit
  pub process : hold.process ≡ p
  pub computed : hold.computed ≡ 0
  pub taken : hold.taken ≡ 0
  pub clock : hold.clock ≡ start (lines_of m.0.view) p
  pub was_ended : hold.was_ended ≡ false
  pub fresh : hold.recorded ≡ false
  pub left : hold.left ≡ steps_of m.0.view.plan p
  pub tells : Tells m.0 p Unborn 0
  pub box : stock.outbox ≡ record { room = m.0.room; events = [] }
  pub mind : m'.0
      ≡ turned (spotted m.0 p Out (start (lines_of m.0.view) p) 0 (holding m.0.view hold)
      (did m.0 (Start m.0.view.number p) m'.0.log.seen))
  pub extends : Extends m.0.view.number m.0.log m'.0.log
  pub out : m'.1 ≡ (p, Some stock) ∷ m.1

-- the exchange of an unborn process's word
abbrev pub starts : Step (Option Deposit) → Holder → ℕ → Holder → Type 0
starts st m r m' = (p : ℕ) → st.word ≡ word_at p
    → (r ≡ 0 → HandsUnborn m p m') × (r ≢ 0 → Finds m p r (λ t c. m.0.view) (λ t. m.0.log) m')

-- ---- give

-- how many events are in the outbox that comes home
abbrev pub events_in : Option Deposit → ℕ
events_in None = 0
events_in (Some x) = length x.outbox.events

-- and how many come home
abbrev pub brings_events : List (ℕ × Option Deposit) → ℕ
brings_events [] = 0
brings_events (x ∷ xs) = events_in x.1

-- how many steps are left of a strand, if there is one
abbrev pub left_of : PlanParts → Option Strand → ℕ
left_of p None = 0
left_of p (Some s) = steps_left p s

-- and of what is in a slot
abbrev pub left_in : PlanParts → Option Deposit → ℕ
left_in p None = 0
left_in p (Some x) = left_of p x.strand

-- and of what comes home
abbrev pub brings : PlanParts → List (ℕ × Option Deposit) → ℕ
brings p [] = 0
brings p (x ∷ xs) = left_in p x.1

-- the store of a process's word
pub record GivesBack (m : Holder) (p : ℕ) (t : Tag) (c : ℕ) (m' : Holder) : Type 0 where
  pub mind : m'.0
      ≡ noticed m.0 p t c (brings m.0.view.plan m.1) (gave m.0.view)
      (did m.0 (giving m.0.view p (brings_events m.1) c) m'.0.log.seen)
  pub extends : Extends m.0.view.number m.0.log m'.0.log
  pub knows : Knows m.0 m'.0
  pub out : m'.1 ≡ rest m.1

-- whatever the word that is stored spells
abbrev pub gives_back : Step (Option Deposit) → Holder → ℕ → Holder → Type 0
gives_back st m r m' =
    (p : ℕ) (t : Tag) (c s : ℕ) → st.word ≡ word_at p → s < MAX_SEATS → st.first ≡ spell t c s → GivesBack m p t c m'

-- ---- publish and release

-- the store of the floor
pub record Publishes (m : Holder) (f : Floor) (m' : Holder) : Type 0 where
  pub mind : m'.0 ≡ stepping m.0 Publish (published m.0.view f (due_of (least m.0.view.sweep))) m'.0.log.seen
  pub extends : Extends m.0.view.number m.0.log m'.0.log
  pub out : m'.1 ≡ m.1

-- that floor is the least of the sweep
abbrev pub publishes : Step (Option Deposit) → Holder → ℕ → Holder → Type 0
publishes st m r m' = Publishes m (floor_of (least m.0.view.sweep)) m'

-- what a release asks of the view
pub record MayRelease (v : View) : Type 0 where
  pub conductor : v.number ≡ 0
  pub due : is_due v.due ≡ true
  pub visited : (p : ℕ) → p < processes v → was_visited v p ≡ true

-- ---- record

-- the store of one of the first eight words of the place of the process that the seat holds
abbrev pub writes : Step (Option Deposit) → Holder → ℕ → Holder → Type 0
writes st m r m' = (p i : ℕ) (x : Hold) → st.word ≡ place_at p i → i < 8 → m.0.view.holds ≡ Some x → x.process ≡ p
    → (m'.0 ≡ viewing m.0 (record m.0.view { holds = Some (record x { written = i + 1 }) })) × (m'.1 ≡ m.1)

-- the store of the last one
abbrev pub records : Step (Option Deposit) → Holder → ℕ → Holder → Type 0
records st m r m' =
    (m'.0 ≡ stepping m.0 (Record m.0.view.number (process_of m.0.view.holds)) (noted m.0.view) m'.0.log.seen)
    × (m'.1 ≡ m.1) × Extends m.0.view.number m.0.log m'.0.log

-- ---- halt and heed

-- the store of the halt word
abbrev pub halts : Step (Option Deposit) → Holder → ℕ → Holder → Type 0
halts st m r m' = (m'.0 ≡ viewing m.0 (record m.0.view { halted = true })) × (m'.1 ≡ m.1)

-- the load of the halt word
abbrev pub heeds : Step (Option Deposit) → Holder → ℕ → Holder → Type 0
heeds st m r m' = st.word ≡ word_at (processes m.0.view)
    → (m'.0 ≡ viewing m.0 (record m.0.view { heeded = nat_eq r 1 })) × (m'.1 ≡ m.1)

-- ---- recall

-- the load of a place word of a process that the seat saw ended
abbrev pub reads : Step (Option Deposit) → Holder → ℕ → Holder → Type 0
reads st m r m' = (m' ≡ m)
    × ((p i : ℕ) → st.word ≡ place_at p i → i < 9 → p < processes m.0.view → slice_index_or m.0.over p false ≡ true
    → r ≡ place_word (end_place m.0.view.plan p) i)
