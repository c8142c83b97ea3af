-- A turn along the chain, in which what is left at a tick is written process by process.
use Rattle.std.specs.Prelude.{◌≡◌, ℕ, ◌+◌, ◌<◌, ◌≤◌, List, [], length, Bool, true, Option, Some, None, nat_lt}
use Rattle.fm_edge.specs.Seen.{SinkSeen}
use Rattle.fm_edge.specs.Runs.{Breaks}
use Rattle.fm_msg.specs.Event.{TimedMessage}
use Rattle.fm_line.specs.Piece.{In, piece}
use Rattle.fm_buffer.specs.Gather.{EventGather}
use Rattle.fm_program.specs.Fit.{PartsFit}
use Rattle.fm_program.specs.Parts.{PlanParts}
use Rattle.fm_program.specs.Process.{plan_lines}
use Rattle.fm_smf.specs.Track.{events_bytes}
use Rattle.fm_smf.specs.Writing.{Written, just_begun}
use Rattle.fm_round.specs.Lefts.{joined}
use Rattle.fm_round.specs.Lanes.{AllStarted, IsNotPast, due, lane, lefts, live_clock, loads}
use Rattle.fm_round.specs.Halfway.{Between}
use Rattle.fm_round.specs.Watching.{AreWatched}
use Rattle.fm_round.specs.declared.lane.Lane.{Lane}
use Rattle.fm_round.specs.declared.watch.Watch.{Watch}

-- ---- a tick

-- the pair of the tick c and the process m is at most that of each event in these lists
abbrev pub AllFrom : ℕ → ℕ → List (List TimedMessage) → Type 0
AllFrom c m xss = (e : TimedMessage) → In e (joined xss) → IsNotPast c m e.time e.process

-- whether the clock of a process that runs is past the tick; one that does not run is past each
abbrev pub is_past : ℕ → Option ℕ → Bool
is_past tick None = true
is_past tick (Some c) = nat_lt tick c

-- the clock of a process and its events that wait are past the tick
pub record IsPast (p : PlanParts) (tick : ℕ) (s : Lane) : Type 0 where
  pub clock : (t : ℕ) → live_clock p s ≡ Some t → tick < t
  pub events : (e : TimedMessage) → In e s.outbox.events → tick < e.time

-- up to the pair no event of another process is due
pub record OwnDue (key : ℕ × ℕ) (ss : List Lane) : Type 0 where
  pub there : key.1 < length ss
  pub others : (j : ℕ) → j < length ss → (j ≡ key.1 → ⊥) → due (Some key) (lane ss j) ≡ []

-- ---- processes

-- the process j was served at the tick: it may have run and given events away, and no other process is changed. Where
-- all is said, nothing of the tick is left of it
pub record Serves (p : PlanParts) (tick j : ℕ) (all : Bool) (old new : List Lane) : Type 0 where
  pub size : length new ≡ length old
  pub others : (i : ℕ) → (i ≡ j → ⊥) → lane new i ≡ lane old i
  pub ended : (lane old j).ended ≡ true → (lane new j).ended ≡ true
  pub begun : (lane new j).strand ≡ None → (lane old j).strand ≡ None
  pub less : loads p 0 new ≤ loads p 0 old
  pub from : all ≡ true → AllFrom tick j (lefts p (plan_lines p) new)
  pub past : all ≡ true → IsPast p tick (lane new j)

-- after a turn each process that can start has started, and there is no more to do than before
pub record Turned (p : PlanParts) (w : Watch) (old new : List Lane) : Type 0 where
  pub watched : AreWatched p w new
  pub started : AllStarted p new (length new)
  pub size : length new ≡ length old
  pub less : loads p 0 new ≤ loads p 0 old

-- ---- what is written

module _ {K : Type 0} (seen : SinkSeen K) where
  -- since the sink was as in some beginning a front of the piece was written, and the rest is left
  pub record IsPlaying (p : PlanParts) (now : K) (writer : Written) (ss : List Lane)
      (gather : EventGather) : Type 0 where
    pub fits : PartsFit p
    pub room : ℕ
    pub begin : K
    pub first : Written
    pub events : ℕ
    pub begun : first ≡ just_begun p.profile
    pub between : Between seen p room begin now first writer ss gather events

  -- whatever front of the piece was written before, n events more of it are written then
  abbrev pub GoesOn : PlanParts → ℕ → (old new : K) → (writer after : Written) → (ss rest : List Lane)
      → (gather cleared : EventGather) → Type 0
  GoesOn p n old new writer after ss rest gather cleared =
      (room : ℕ) (begin : K) (first : Written) (events : ℕ) → first ≡ just_begun p.profile
      → Between seen p room begin old first writer ss gather events
      → Between seen p room begin new first after rest cleared (events + n)

  -- and where a call fails, no more than a front of the piece
  abbrev pub StopsShort : PlanParts → (old new : K) → Written → List Lane → EventGather → Type 0
  StopsShort p old new writer ss gather =
      (room : ℕ) (begin : K) (first : Written) (events : ℕ) → first ≡ just_begun p.profile
      → Between seen p room begin old first writer ss gather events
      → Breaks seen begin new (events_bytes first.state (piece (plan_lines p)))
