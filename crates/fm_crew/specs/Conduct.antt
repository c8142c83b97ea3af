-- What a conductor's passes need and leave.
use Rattle.std.specs.Prelude.{◌≡◌, ℕ, ◌-◌, ◌*◌, ◌<◌, ◌≤◌, List, [], length, true, false, Option, IfSome}
use Rattle.fm_edge.specs.Seen.{SinkSeen}
use Rattle.fm_msg.specs.Event.{TimedMessage}
use Rattle.fm_line.specs.Line.{line}
use Rattle.fm_line.specs.Piece.{piece}
use Rattle.fm_buffer.specs.Gather.{EventGather}
use Rattle.fm_core.specs.Floors.{floor_of}
use Rattle.fm_core.specs.Taking.{due_of, is_due}
use Rattle.fm_core.specs.declared.due.Due.{Due}
use Rattle.fm_core.specs.declared.due.Due.TheVariants.{Nothing}
use Rattle.fm_core.specs.declared.floor.Floor.{Floor}
use Rattle.fm_core.specs.declared.floor.Floor.TheVariants.{At, Done}
use Rattle.fm_program.specs.Process.{plan_lines}
use Rattle.fm_smf.specs.Writing.{Written, Writes}
use Rattle.fm_smf.specs.Track.{events_bytes}
use Rattle.fm_edge.specs.Runs.{Breaks}
use Rattle.fm_board.specs.Calls.{Releases}
use Rattle.fm_board.specs.Played.{PlaysWhole}
use Rattle.fm_board.specs.Quantum.{IsLimit}
use Rattle.fm_board.specs.Seats.{IsIdle, SeatState}
use Rattle.fm_board.specs.View.{lines_of, processes, published, released, was_visited}
use Rattle.fm_board.specs.declared.about.About.{About}
use Rattle.fm_board.specs.declared.view.View.{View}
use Rattle.fm_calls.specs.Shared.{Shared}
use Rattle.fm_play.specs.Ends.{CanFollow}
use Rattle.fm_crew.specs.Onward.{IsFull}
use Rattle.fm_crew.specs.declared.conductor.Conductor.{Conductor}
use Rattle.fm_crew.specs.declared.limits.Pass.{Pass}

-- the conductor's view in a pass about what is due, in which processes are run up to a limit
pub record IsInPass (a : About) (v : View) (due : Due) (limit : ℕ) : Type 0 where
  pub plan : v.plan ≡ a.plan
  pub conductor : v.number ≡ 0
  pub due_is : v.due ≡ due
  pub in_lead : IsLimit v.paced a.lead limit
  pub marks : length v.visited ≡ processes v

-- while something is due, the first n processes are visited and no other is
pub record HasVisited (v : View) (due : Due) (n : ℕ) : Type 0 where
  pub front : is_due due ≡ true → (k : ℕ) → k < n → was_visited v k ≡ true
  pub back : is_due due ≡ true → (k : ℕ) → n ≤ k → was_visited v k ≡ false

-- what was taken of the first n processes is gathered, and there is room for what the others may have
pub record HasGathered (a : About) (v : View) (gather : EventGather) (due : Due) (n : ℕ) : Type 0 where
  pub taken : gather.events ≡ v.gathered
  pub few : length gather.events ≤ n * a.room
  pub none : is_due due ≡ false → gather.events ≡ []
  pub space : processes v * a.room ≤ gather.capacity

-- in a pass, after so many processes
pub record Passing (a : About) (v : View) (gather : EventGather) (due : Due) (limit n : ℕ) : Type 0 where
  pub pass : IsInPass a v due limit
  pub visits : HasVisited v due n
  pub gathers : HasGathered a v gather due n

-- a conductor in a pass, after so many processes: its seat holds nothing
pub record Attends (w : Shared) (c : Conductor) (p : Pass) (n : ℕ) : Type 0 where
  pub idle : IsIdle w.table w.about c.seat
  pub passing : Passing w.about c.seat.mind.view c.gather p.due p.limit n

-- what a pass leaves as it was
pub record Stays (old new : View) : Type 0 where
  pub plan : new.plan ≡ old.plan
  pub paced : new.paced ≡ old.paced
  pub released : new.released ≡ old.released
  pub published : new.published ≡ old.published
  pub halted : new.halted ≡ old.halted

-- once all is done, the clock that a look found is the end of the process
abbrev pub TellsEnd : View → ℕ → ℕ → Type 0
TellsEnd v p clock = v.published ≡ Done → clock ≡ (line (lines_of v) p).end

-- the same of the last of the first n processes
abbrev pub TellsLast : View → ℕ → ℕ → Type 0
TellsLast v n clock = v.published ≡ Done → 0 < n → clock ≡ (line (lines_of v) (n - 1)).end

-- the first pass: nothing is due, and processes are run up to the lead
abbrev pub first_pass : About → Pass
first_pass a = record { due = Nothing; limit = a.lead }

-- a conductor as it begins: before the first pass, with nothing released, and an empty gather with room for all that
-- the outboxes can hold
pub record MayConduct (w : Shared) (c : Conductor) : Type 0 where
  pub attends : Attends w c (first_pass w.about) 0
  pub paced : c.seat.mind.view.paced ≡ At 0
  pub released : c.seat.mind.view.released ≡ 0
  pub running : c.seat.mind.view.halted ≡ false
  pub full : IsFull c.seat.mind

-- a conductor's seat after an Ok: it has released every event of the piece, its last floor says that all is done, and a
-- run of the core, in which its steps are those that it made, has played the whole piece
pub record HasConducted (w : Shared) (s : SeatState) : Type 0 where
  pub idle : IsIdle w.table w.about s
  pub conductor : s.mind.view.number ≡ 0
  pub running : s.mind.view.halted ≡ false
  pub published : s.mind.view.published ≡ Done
  pub released : s.mind.view.released ≡ length (piece (plan_lines w.about.plan))
  pub plays : PlaysWhole s.mind

-- looks alone: another sweep, and what they visit
abbrev pub LooksAgain : View → View → Type 0
LooksAgain old new = new ≡ record old { sweep = new.sweep; visited = new.visited }

-- a publish of the least pair of a sweep, and a pace
pub record MovesFloor (old new : View) (paced : Floor) (due : Due) : Type 0 where
  pub pair : Option (ℕ × ℕ)
  pub due_is : due ≡ due_of pair
  pub view : new ≡ record (published old (floor_of pair) due) { paced = paced }

-- a conductor's seat that holds nothing
pub record IsConductor (w : Shared) (s : SeatState) : Type 0 where
  pub idle : IsIdle w.table w.about s
  pub conductor : s.mind.view.number ≡ 0

-- the next events were released
pub record ReleasesNext (old new : View) (events : List TimedMessage) : Type 0 where
  pub releases : Releases old events
  pub view : new ≡ released old (length events)

module _ {K : Type 0} (seen : SinkSeen K) where
  -- the next events were released and written, and the gather is empty
  pub record WritesNext (old new : Conductor) (begin now : K) (writer writer' : Written) (n : ℕ) : Type 0 where
    pub events : List TimedMessage
    pub next : ReleasesNext old.seat.mind.view new.seat.mind.view events
    pub gathered : length events ≡ length old.gather.events
    pub cleared : new.gather ≡ record old.gather { events = [] }
    pub count : n ≡ length events
    pub writes : Writes seen begin now events writer writer'

  -- the next events were released, and the sink failed before all were written
  pub record BreaksNext (old new : Conductor) (begin now : K) (writer : Written) : Type 0 where
    pub events : List TimedMessage
    pub next : ReleasesNext old.seat.mind.view new.seat.mind.view events
    pub breaks : Breaks seen begin now (events_bytes writer.state events)

  -- what comes next can be put into the sink
  pub record CanPutNext (v : View) (begin : K) (writer : Written) : Type 0 where
    pub within : v.released ≤ length (piece (lines_of v))
    pub follow : (events : List TimedMessage) → Releases v events → CanFollow writer events
    pub at_end : IfSome (seen.content begin) (λ c. length c ≡ writer.put)

  -- a conductor that has visited what is due, and can put what comes next into the sink
  pub record CanRelease (w : Shared) (c : Conductor) (due : Due) (begin : K) (writer : Written)
      : Type 0 where
    pub conductor : IsConductor w c.seat
    pub due_is : due ≡ c.seat.mind.view.due
    pub visited : is_due due ≡ true → (p : ℕ) → p < processes c.seat.mind.view
        → was_visited c.seat.mind.view p ≡ true
    pub taken : c.gather.events ≡ c.seat.mind.view.gathered
    pub none : is_due due ≡ false → c.gather.events ≡ []
    pub next : CanPutNext c.seat.mind.view begin writer
