-- In which way a plan is played, what that leaves in a new sink, whatever the way, and the limits of a performance.
use Rattle.std.specs.Prelude.{◌≡◌, ℕ, ◌<◌, ◌≤◌, nat_eq, nat_lt, if◌then◌else◌, Bool, true, false, length, Result, MatchResult}
use Rattle.fm_buffer.specs.declared.outbox.TheConstants.{MAX_ROOM}
use Rattle.fm_core.specs.declared.limits.TheConstants.{MAX_LEAD, MAX_SEATS}
use Rattle.fm_effort.specs.Effort.{workers_of}
use Rattle.fm_edge.specs.Seen.{SinkSeen}
use Rattle.fm_line.specs.Piece.{piece}
use Rattle.fm_play.specs.Ends.{piece_end}
use Rattle.fm_play.specs.Performance.{HasWholeFile}
use Rattle.fm_play.specs.declared.played.Played.{Played}
use Rattle.fm_program.specs.Parts.{PlanParts}
use Rattle.fm_program.specs.Process.{plan_lines}
use Rattle.fm_smf.specs.Writing.{IsBroken}
use Rattle.fm_tell.specs.declared.run_fault.RunFault.{RunFault}
use Rattle.fm_tell.specs.declared.run_fault.RunFault.TheVariants as run
use Rattle.fm_words.specs.Settings.{Settings}
use Rattle.fm_way.specs.declared.way.Way.{Way}
use Rattle.fm_way.specs.declared.way.Way.TheVariants.{Alone, Conductor, Rounds, Crew}

-- by so many workers that are worth their cost, or alone where none is
abbrev pub crew_of : ℕ → Way
crew_of useful = if nat_eq useful 0 then Alone else Crew useful

-- in which way so many processes are played, of so many workers that are asked for and so many that are useful
abbrev pub way_for : (workers processes useful : ℕ) → (rounds : Bool) → Way
way_for workers processes useful rounds =
    if nat_eq workers 0 then Alone
    else if nat_lt processes 2 then Conductor
    else if rounds then Rounds workers
    else crew_of useful

-- in which way a plan is played where the words ask for these settings
abbrev pub way_of : Settings → PlanParts → Way
way_of s plan = way_for s.workers (length plan.programs) (workers_of plan s.room s.workers) s.rounds

-- how many threads a way asks for beside the calling one
abbrev pub threads_of : Way → ℕ
threads_of Alone = 0
threads_of Conductor = 0
threads_of (Rounds threads) = threads
threads_of (Crew workers) = workers

-- whether the calling thread does all
abbrev pub is_alone : Way → Bool
is_alone Alone = true
is_alone Conductor = true
is_alone (Rounds threads) = false
is_alone (Crew workers) = false

-- the limits of a performance, in whatever way
pub record CanPlay (way : Way) (room lead : ℕ) : Type 0 where
  pub few : threads_of way < MAX_SEATS
  pub some : 1 ≤ room
  pub small : room ≤ MAX_ROOM
  pub short : lead ≤ MAX_LEAD

module _ {K : Type 0} (to : SinkSeen K) (sink sink' : K) where
  -- what a fault says of the sink, where a plan was to be played: a call failed before its file was in the sink, or
  -- memory was wanting before the first byte
  abbrev pub StopsAt : PlanParts → RunFault → Type 0
  StopsAt plan run.Write =
      IsBroken to sink sink' plan.profile
      (piece (plan_lines plan)) (piece_end (plan_lines plan))
  StopsAt plan run.Memory = sink' ≡ sink
  StopsAt plan fault = ⊥

  -- what playing a plan leaves in the sink, which was new: the whole file, or what the fault says
  abbrev pub Plays : PlanParts → Result Played RunFault → Type 0
  Plays plan result = MatchResult result (HasWholeFile to sink sink' plan) (StopsAt plan)

-- the limits of a performance on record: one seat is the conductor's
pub record CanRecord (workers room lead : ℕ) : Type 0 where
  pub few : workers < MAX_SEATS
  pub some : 1 ≤ room
  pub small : room ≤ MAX_ROOM
  pub short : lead ≤ MAX_LEAD
