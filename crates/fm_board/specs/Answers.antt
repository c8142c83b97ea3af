-- What a claim and a start answer.
use Rattle.std.specs.Prelude.{◌≡◌, ◌≢◌, ℕ, ◌≤◌, length, slice_index_or}
use Rattle.fm_core.specs.Tags.{is_ended}
use Rattle.fm_board.specs.declared.berth.Berth.{Berth}
use Rattle.fm_board.specs.declared.claim.Claim.{Claim}
use Rattle.fm_board.specs.declared.claim.Claim.TheVariants as claim
use Rattle.fm_board.specs.declared.seen.Seen.{Seen}
use Rattle.fm_board.specs.declared.about.About.{About}
use Rattle.fm_board.specs.View.{gave, giving, holding, looked}
use Rattle.fm_board.specs.declared.view.Hold.{Hold}
use Rattle.fm_board.specs.declared.view.Log.{Log}
use Rattle.fm_board.specs.declared.view.View.{View}
use Rattle.fm_board.specs.Runs.{Extends}
use Rattle.fm_board.specs.Calls.{IsHold}
use Rattle.fm_core.specs.Tags.{given_tag}
use Rattle.fm_strand.specs.Strand.{clock_of, steps_left}
use Rattle.fm_board.specs.Minds.{did, did_look, noticed, spotted, turned}
use Rattle.fm_board.specs.Plays.{Tells}
use Rattle.fm_core.specs.declared.step.Step.TheVariants.{Claim as Claiming}
use Rattle.fm_board.specs.Words.{spell}
use Rattle.fm_board.specs.Seats.{SeatState}
use Rattle.fm_board.specs.View.{is_over}

-- the berth is of this hold
pub record IsBerth (a : About) (p : ℕ) (h : Hold) (b : Berth) : Type 0 where
  pub hold : IsHold a.plan a.room p h b.strand b.outbox
  pub process : b.process ≡ p

-- the seat was handed a process whose word, as this call found it, said this
pub record HasClaimed (a : About) (old : SeatState) (p : ℕ) (s : Seen) (b : Berth) (new : SeatState) : Type 0 where
  pub hold : Hold
  pub berth : IsBerth a p hold b
  pub was_ended : hold.was_ended ≡ is_ended s.tag
  pub at : hold.clock ≡ s.clock
  pub behind : hold.left ≤ slice_index_or old.mind.left p 0
  pub tells : Tells old.mind p s.tag s.clock
  pub extends : Extends old.mind.view.number old.mind.log new.mind.log
  pub sight : new ≡ record {
    table = old.table;
    mind = turned (spotted old.mind p s.tag s.clock (spell s.tag s.clock s.seat) (holding old.mind.view hold)
        (did old.mind (Claiming old.mind.view.number p) new.mind.log.seen));
  }

-- this word of the process was found in this call, and is not older than what the seat saw before; the seat has this view
-- then, and this log
pub record Found (old : SeatState) (p : ℕ) (s : Seen) (v : View) (l : Log) (new : SeatState) : Type 0 where
  pub tells : Tells old.mind p s.tag s.clock
  pub same : old.mind.made ≡ 1 → old.mind.view.number ≡ 0 → old.mind.at ≡ p → spell s.tag s.clock s.seat ≡ old.mind.last
  pub sight : new ≡ record {
    table = old.table;
    mind = spotted old.mind p s.tag s.clock (spell s.tag s.clock s.seat) v l;
  }
  pub extends : Extends old.mind.view.number old.mind.log new.mind.log

-- a look found this word of the process
abbrev pub Looks : SeatState → ℕ → Seen → SeatState → Type 0
Looks old p s new =
    Found old p s (looked old.mind.view p s.tag s.clock)
    (did_look old.mind p s.tag new.mind.log.seen) new

-- the answer of a claim
abbrev pub Claims : About → SeatState → ℕ → Seen → Claim → SeatState → Type 0
Claims a old p expected (claim.Held b) new = HasClaimed a old p expected b new
Claims a old p expected (claim.Busy found) new =
    Found old p found old.mind.view old.mind.log new × (found ≢ expected)
    × (spell found.tag found.clock found.seat ≢ spell expected.tag expected.clock expected.seat)

-- what a give leaves
abbrev pub Gave : About → SeatState → Berth → SeatState → Type 0
Gave a old b new =
    new ≡ record {
      table = old.table;
      mind = noticed old.mind b.process
          (given_tag a.room (is_over old.mind.view.holds) (length b.outbox.events))
          (clock_of a.plan b.strand) (steps_left a.plan b.strand) (gave old.mind.view)
          (did old.mind (giving old.mind.view b.process (length b.outbox.events) (clock_of a.plan b.strand))
          new.mind.log.seen);
    }
