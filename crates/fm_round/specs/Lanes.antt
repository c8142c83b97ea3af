-- A process between two rounds: its strand, and the events that it has computed ahead.
use Rattle.std.specs.Prelude.{◌≡◌, ℕ, ◌+◌, ◌<◌, ◌≤◌, ◌⊎◌, List, [], ◌∷◌, ◌++◌, length, map, suc, take, drop, slice_index_or, All, Bool, true, false, Option, Some, None, nat_le, if◌then◌else◌}
use Rattle.fm_msg.specs.Event.{TimedMessage}
use Rattle.fm_line.specs.declared.line.Line.{Line}
use Rattle.fm_buffer.specs.Outbox.{count_through}
use Rattle.fm_program.specs.Fit.{PartsFit}
use Rattle.fm_program.specs.Parts.{PlanParts, process_program}
use Rattle.fm_strand.specs.declared.strand.Strand.{Strand}
use Rattle.fm_strand.specs.declared.answers.Quantum.{Quantum}
use Rattle.fm_strand.specs.declared.answers.Quantum.TheVariants as quantum
use Rattle.fm_strand.specs.declared.answers.TheConstants.{MAX_QUANTUM}
use Rattle.fm_strand.specs.Course.{steps_of}
use Rattle.fm_strand.specs.Strand.{InCourse, clock_of, rest, steps_left}
use Rattle.fm_round.specs.declared.lane.Lane.{Lane}

-- ---- reading

-- what stands for a lane that is not there
abbrev pub no_lane : Lane
no_lane = record { strand = None; ended = false; outbox = record { room = 0; events = [] } }

-- the lane of the process j
abbrev pub lane : List Lane → ℕ → Lane
lane ss j = slice_index_or ss j no_lane

-- the j-th predecessor's number
abbrev pub predecessors : PlanParts → ℕ → List ℕ
predecessors p j = (process_program p j).predecessors

-- ---- what is left

-- the events that a process has still to compute, of a line with these
abbrev pub yet : PlanParts → List TimedMessage → Option Strand → List TimedMessage
yet p events None = events
yet p events (Some t) = rest p t

-- what is still to be released of a process
abbrev pub left : PlanParts → List TimedMessage → Lane → List TimedMessage
left p events s = s.outbox.events ++ yet p events s.strand

-- the same of each process
abbrev pub lefts : PlanParts → List Line → List Lane → List (List TimedMessage)
lefts p [] ss = []
lefts p (l ∷ ls) [] = []
lefts p (l ∷ ls) (s ∷ ss) = left p l.events s ∷ lefts p ls ss

-- how many events may wait
abbrev pub room_of : Lane → ℕ
room_of s = s.outbox.room

-- the sum of these rooms
abbrev pub room_sum : List ℕ → ℕ
room_sum [] = 0
room_sum (room ∷ rooms) = room + room_sum rooms

-- ---- what a lane is

-- a strand of the process j, whose events that wait lie before its clock
pub record IsStrandOf (p : PlanParts) (j : ℕ) (ended : Bool) (events : List TimedMessage) (t : Strand) : Type 0 where
  pub course : InCourse p t
  pub process : t.process ≡ j
  pub early : All (λ e. e.time ≤ clock_of p t) events
  pub at_end : ended ≡ true → steps_left p t ≡ 0

-- a process that has not started has computed nothing
abbrev pub IsRun : PlanParts → ℕ → Bool → List TimedMessage → Option Strand → Type 0
IsRun p j ended events None = (events ≡ []) × (ended ≡ false)
IsRun p j ended events (Some t) = IsStrandOf p j ended events t

-- the lane of the process j
abbrev pub IsLaneOf : PlanParts → ℕ → Lane → Type 0
IsLaneOf p j s = IsRun p j s.ended s.outbox.events s.strand

-- the lanes of the processes from `first` on
abbrev pub AreLanes : PlanParts → ℕ → List Lane → Type 0
AreLanes p first ss = (k : ℕ) → k < length ss → IsLaneOf p (first + k) (lane ss k)

-- those of all processes
abbrev pub AllLanes : PlanParts → List Lane → Type 0
AllLanes p ss = (j : ℕ) → j < length ss → IsLaneOf p j (lane ss j)

-- and those of a plan that fits
pub record AreProcesses (p : PlanParts) (ss : List Lane) : Type 0 where
  pub fits : PartsFit p
  pub count : length ss ≡ length p.programs
  pub lanes : AllLanes p ss

-- a process that has not started, with room for so many events
pub record IsFresh (size : ℕ) (s : Lane) : Type 0 where
  pub strand : s.strand ≡ None
  pub ended : s.ended ≡ false
  pub events : s.outbox.events ≡ []
  pub room : s.outbox.room ≡ size

-- ---- clocks

-- the clock of a process by whether it has ended, and by its strand where it has started
abbrev pub run_clock : PlanParts → Bool → Option Strand → Option ℕ
run_clock p true t = None
run_clock p false None = None
run_clock p false (Some t) = Some (clock_of p t)

-- the clock of a process that has started and not ended
abbrev pub live_clock : PlanParts → Lane → Option ℕ
live_clock p s = run_clock p s.ended s.strand

-- whether a process has started and not ended, by whether it has ended, and by its strand where it has started
abbrev pub run_is_live : Bool → Option Strand → Bool
run_is_live true t = false
run_is_live false None = false
run_is_live false (Some t) = true

-- whether the process of a lane has started and not ended
abbrev pub is_running : Lane → Bool
is_running s = run_is_live s.ended s.strand

-- one of them has
pub record SomeRuns (ss : List Lane) : Type 0 where
  pub at : ℕ
  pub there : at < length ss
  pub live : is_running (lane ss at) ≡ true

-- none of them has
abbrev pub NoneRuns : List Lane → Type 0
NoneRuns ss = (k : ℕ) → k < length ss → is_running (lane ss k) ≡ false

-- the pair of the time c and the process m is at most the pair of the time t and the process j
abbrev pub IsNotPast : ℕ → ℕ → ℕ → ℕ → Type 0
IsNotPast c m t j = (c < t) ⊎ ((c ≡ t) × (m ≤ j))

-- of the first n processes m has the least pair of clock and number, and its clock is c
pub record IsLeast (p : PlanParts) (ss : List Lane) (n c m : ℕ) : Type 0 where
  pub inside : m < n
  pub clock : live_clock p (lane ss m) ≡ Some c
  pub least : (j t : ℕ) → j < n → live_clock p (lane ss j) ≡ Some t → IsNotPast c m t j

-- the least pair of the first n processes, or none where none of them is live
abbrev pub LeastOf : PlanParts → List Lane → ℕ → Option (ℕ × ℕ) → Type 0
LeastOf p ss n None = (j : ℕ) → j < n → live_clock p (lane ss j) ≡ None
LeastOf p ss n (Some r) = IsLeast p ss n r.0 r.1

-- the lesser of a pair and that of a clock and a later process
abbrev pub lesser_of : Option (ℕ × ℕ) → Option ℕ → ℕ → Option (ℕ × ℕ)
lesser_of best None j = best
lesser_of None (Some t) j = Some (t, j)
lesser_of (Some r) (Some t) j = if nat_le r.0 t then Some r else Some (t, j)

-- the strand of the process j is at its end
pub record IsAtEnd (p : PlanParts) (j : ℕ) (s : Lane) : Type 0 where
  pub strand : Strand
  pub is : s.strand ≡ Some strand
  pub course : InCourse p strand
  pub process : strand.process ≡ j
  pub over : steps_left p strand ≡ 0

-- all are
abbrev pub AllAtEnd : PlanParts → List Lane → Type 0
AllAtEnd p ss = (j : ℕ) → j < length ss → IsAtEnd p j (lane ss j)

-- ---- starts

-- some predecessor of the process j has not ended
pub record IsWaiting (p : PlanParts) (ss : List Lane) (j : ℕ) : Type 0 where
  pub at : ℕ
  pub there : at < length (predecessors p j)
  pub live : (lane ss (slice_index_or (predecessors p j) at 0)).ended ≡ false

-- all of them have
abbrev pub AllEnded : PlanParts → List Lane → ℕ → Type 0
AllEnded p ss j = (i : ℕ) → i < length (predecessors p j)
    → (lane ss (slice_index_or (predecessors p j) i 0)).ended ≡ true

-- of the first n processes, who has not started waits for one that has not ended
abbrev pub AllStarted : PlanParts → List Lane → ℕ → Type 0
AllStarted p ss n = (j : ℕ) → j < n → (lane ss j).strand ≡ None → IsWaiting p ss j

-- ---- what there is to do

-- the steps that a process has left, and one for its end
abbrev pub run_load : PlanParts → ℕ → Bool → Option Strand → ℕ
run_load p j true t = 0
run_load p j false None = steps_of p j + 1
run_load p j false (Some t) = steps_left p t + 1

-- what there is to do for the process of a lane
abbrev pub load : PlanParts → ℕ → Lane → ℕ
load p j s = run_load p j s.ended s.strand

-- those of the processes from `first` on
abbrev pub loads : PlanParts → ℕ → List Lane → ℕ
loads p first [] = 0
loads p first (s ∷ ss) = load p first s + loads p (suc first) ss

-- ---- one round

-- whether the program came to its end
abbrev pub has_ended : Quantum → Bool
has_ended quantum.Ended = true
has_ended quantum.Spent = false
has_ended quantum.Full = false
has_ended quantum.Limit = false

-- the strand may make a step up to the limit
pub record CanRun (p : PlanParts) (limit : ℕ) (s : Lane) : Type 0 where
  pub clock : ℕ
  pub live : live_clock p s ≡ Some clock
  pub in_time : clock ≤ limit
  pub room : length s.outbox.events < s.outbox.room

-- behind the events that wait others were put, none later than the limit
pub record PutsInTime (limit : ℕ) (old new : Lane) : Type 0 where
  pub put : List TimedMessage
  pub events : new.outbox.events ≡ old.outbox.events ++ put
  pub in_time : All (λ e. e.time ≤ limit) put

-- what a quantum makes of the lane of the process j
pub record Runs (p : PlanParts) (j limit : ℕ) (old new : Lane) : Type 0 where
  pub same : (events : List TimedMessage) → left p events new ≡ left p events old
  pub fits : IsLaneOf p j new
  pub room : new.outbox.room ≡ old.outbox.room
  pub less : load p j new ≤ load p j old
  pub moves : CanRun p limit old → load p j new < load p j old
  -- at most as many steps are made as a quantum has, and the end is found
  pub few : load p j old ≤ load p j new + MAX_QUANTUM + 1
  pub puts : PutsInTime limit old new
  -- who has not started, or has ended, is left as it was, and who has started stays so
  pub idle : is_running old ≡ false → new ≡ old
  pub begun : new.strand ≡ None → old.strand ≡ None

-- of each of the processes from `first` on
abbrev pub RunsEach : PlanParts → (first limit : ℕ) → List Lane → List Lane → Type 0
RunsEach p first limit old new =
    (k : ℕ) → k < length old → Runs p (first + k) limit (lane old k) (lane new k)

-- of all processes: nothing is lost, and who may run leaves less to do
pub record RunsAll (p : PlanParts) (limit : ℕ) (old new : List Lane) : Type 0 where
  pub same : (ls : List Line) → lefts p ls new ≡ lefts p ls old
  pub lanes : AllLanes p new
  pub rooms : map room_of new ≡ map room_of old
  pub less : loads p 0 new ≤ loads p 0 old
  pub moves : (j : ℕ) → j < length old → CanRun p limit (lane old j) → loads p 0 new < loads p 0 old
  pub idle : (j : ℕ) → j < length old → is_running (lane old j) ≡ false → lane new j ≡ lane old j
  pub begun : (j : ℕ) → j < length old → (lane new j).strand ≡ None → (lane old j).strand ≡ None

-- ---- one release

-- the events of an outbox up to the key
abbrev pub due : Option (ℕ × ℕ) → Lane → List TimedMessage
due key s = take (count_through key s.outbox.events) s.outbox.events

-- the lane without them
abbrev pub without_due : Option (ℕ × ℕ) → Lane → Lane
without_due key s = record s {
  outbox = record s.outbox { events = drop (count_through key s.outbox.events) s.outbox.events };
}
