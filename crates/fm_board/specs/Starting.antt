-- What a recall and a start answer.
use Rattle.std.specs.Prelude.{◌≡◌, ℕ, ◌<◌, List, [], ◌∷◌, length, take, true, false, slice_index_or}
use Rattle.fm_core.specs.Tags.{is_ended, is_unborn}
use Rattle.fm_core.specs.declared.tag.Tag.TheVariants.{Out, Unborn}
use Rattle.fm_line.specs.Line.{line, start}
use Rattle.fm_program.specs.Process.{plan_lines}
use Rattle.fm_strand.specs.Calls.{IsBegun}
use Rattle.fm_strand.specs.Course.{end_place, start_place}
use Rattle.fm_strand.specs.Strand.{place_reached}
use Rattle.fm_board.specs.declared.about.About.{About}
use Rattle.fm_board.specs.declared.berth.Berth.{Berth}
use Rattle.fm_board.specs.declared.claim.Claim.{Claim}
use Rattle.fm_board.specs.declared.claim.Claim.TheVariants as claim
use Rattle.fm_board.specs.declared.claim.Recalled.{Recalled}
use Rattle.fm_board.specs.declared.claim.Recalled.TheVariants as recalled
use Rattle.fm_board.specs.declared.claim.Started.{Started}
use Rattle.fm_board.specs.declared.claim.Started.TheVariants as started
use Rattle.fm_board.specs.declared.seen.Seen.{Seen}
use Rattle.fm_board.specs.declared.starting.Waited.{Waited}
use Rattle.fm_board.specs.declared.starting.Waited.TheVariants as waited
use Rattle.fm_board.specs.declared.view.Hold.{Hold}
use Rattle.fm_board.specs.Answers.{Found, IsBerth}
use Rattle.fm_board.specs.Knowing.{Knows}
use Rattle.fm_board.specs.Minds.{did, recalled, spotted, turned}
use Rattle.fm_board.specs.Plays.{Marked, Tells}
use Rattle.fm_core.specs.declared.step.Step.TheVariants.{Start}
use Rattle.fm_board.specs.Runs.{Extends}
use Rattle.fm_board.specs.Seats.{SeatState}
use Rattle.fm_board.specs.View.{holding, lines_of, waiting}
use Rattle.fm_board.specs.Words.{spell}

-- ---- recall

-- the word of the process was found ended
pub record FindsEnd (old : SeatState) (p : ℕ) (new : SeatState) : Type 0 where
  pub seen : Seen
  pub found : Found old p seen old.mind.view (recalled old.mind p new.mind.log.seen seen.tag) new
  pub ended : is_ended seen.tag ≡ true

-- the word of the process was found not ended
pub record FindsLive (old : SeatState) (p : ℕ) (s : Seen) (new : SeatState) : Type 0 where
  pub found : Found old p s old.mind.view (recalled old.mind p new.mind.log.seen s.tag) new
  pub live : is_ended s.tag ≡ false

-- the answer of a recall
abbrev pub Recalls : About → SeatState → ℕ → Recalled → SeatState → Type 0
Recalls a old p (recalled.There place) new = FindsEnd old p new × (place ≡ end_place a.plan p)
Recalls a old p (recalled.NotYet found) new = FindsLive old p found new

-- ---- the predecessors of a process

-- the processes that this one waits for, in their order
abbrev pub predecessors_of : SeatState → ℕ → List ℕ
predecessors_of x p = (line (lines_of x.mind.view) p).predecessors

-- the seat has only found words: it knows no less of any process
pub record HasSeen (old new : SeatState) : Type 0 where
  pub table : new.table ≡ old.table
  pub view : new.mind.view ≡ old.mind.view
  pub made : new.mind.made ≡ old.mind.made
  pub room : new.mind.room ≡ old.mind.room
  pub knows : Knows old.mind new.mind

-- the words of these processes were found in turn, each ended
abbrev pub FindsEnds : SeatState → List ℕ → SeatState → Type 0
FindsEnds old [] new = new ≡ old
FindsEnds old (q ∷ qs) new = (x : SeatState) × FindsEnd old q x × FindsEnds x qs new

-- the words of all predecessors were found ended
pub record EndsFound (old : SeatState) (p : ℕ) (new : SeatState) : Type 0 where
  pub finds : FindsEnds old (predecessors_of old p) new
  pub seen : HasSeen old new
  pub marked : Marked new.mind p (length (predecessors_of new p))

-- the word of a predecessor was found not ended, after those before it in their order were found ended
pub record IsFirstLive (old : SeatState) (p q : ℕ) (s : Seen) (new : SeatState) : Type 0 where
  pub nth : ℕ
  pub within : nth < length (predecessors_of old p)
  pub is : q ≡ slice_index_or (predecessors_of old p) nth 0
  pub before : SeatState
  pub finds : FindsEnds old (take nth (predecessors_of old p)) before
  pub live : FindsLive before q s new
  pub seen : HasSeen old new

-- what was found of the predecessors: the tick of the last end, or the first that is not ended
abbrev pub Waits : About → SeatState → ℕ → Waited → SeatState → Type 0
Waits a old p (waited.Ended tick) new = EndsFound old p new × (tick ≡ start (plan_lines a.plan) p)
Waits a old p (waited.NotYet q found) new = IsFirstLive old p q found new

-- ---- the exchange of a start

-- a process at its start, in a seat's hands
pub record IsAtStart (a : About) (p : ℕ) (h : Hold) (b : Berth) : Type 0 where
  pub berth : IsBerth a p h b
  pub begun : IsBegun a.plan p b.strand
  pub place : place_reached a.plan b.strand ≡ start_place a.plan p
  pub live : h.was_ended ≡ false
  pub none : waiting a.plan h ≡ []
  pub at : h.clock ≡ start (plan_lines a.plan) p

-- the process was not born, and the seat was handed it
pub record HasBegun (a : About) (old : SeatState) (p : ℕ) (b : Berth) (new : SeatState) : Type 0 where
  pub hold : Hold
  pub is : IsAtStart a p hold b
  pub tells : Tells old.mind p Unborn 0
  pub sight : new ≡ record {
    table = old.table;
    mind = turned (spotted old.mind p Out hold.clock (spell Unborn 0 0) (holding old.mind.view hold)
        (did old.mind (Start old.mind.view.number p) new.mind.log.seen));
  }
  pub extends : Extends old.mind.view.number old.mind.log new.mind.log

-- the process was born
pub record IsBorn (old : SeatState) (p : ℕ) (s : Seen) (new : SeatState) : Type 0 where
  pub found : Found old p s old.mind.view old.mind.log new
  pub born : is_unborn s.tag ≡ false

-- the answer of the exchange
abbrev pub BeginsAs : About → SeatState → ℕ → Claim → SeatState → Type 0
BeginsAs a old p (claim.Held b) new = HasBegun a old p b new
BeginsAs a old p (claim.Busy found) new = IsBorn old p found new

-- ---- start

-- all predecessors were ended, and the process was not born
pub record IsStarted (a : About) (old : SeatState) (p : ℕ) (b : Berth) (new : SeatState) : Type 0 where
  pub between : SeatState
  pub ended : EndsFound old p between
  pub begins : HasBegun a between p b new

-- all predecessors were ended, and the process was born
pub record WasStarted (old : SeatState) (p : ℕ) (s : Seen) (new : SeatState) : Type 0 where
  pub between : SeatState
  pub ended : EndsFound old p between
  pub born : IsBorn between p s new
  pub seen : HasSeen old new

-- the answer of a start
abbrev pub Starts : About → SeatState → ℕ → Started → SeatState → Type 0
Starts a old p (started.Held b) new = IsStarted a old p b new
Starts a old p (started.NotYet q found) new = IsFirstLive old p q found new
Starts a old p (started.Busy found) new = WasStarted old p found new
