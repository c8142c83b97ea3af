-- The processes that may have something to do, one behind the other in a chain of their numbers.
use Rattle.std.specs.Prelude.{◌≡◌, ℕ, ◌+◌, ◌<◌, ◌≤◌, List, [], length, slice_index_or, false}
use Rattle.fm_line.specs.declared.limits.TheConstants.{MAX_PROCESSES}
use Rattle.fm_round.specs.Lanes.{is_running, lane}
use Rattle.fm_round.specs.declared.lane.Lane.{Lane}

-- ---- numbers

-- the number behind x in the chain, or 0 where x is not in it
abbrev pub link : List ℕ → ℕ → ℕ
link ns x = slice_index_or ns x 0

-- the chain begins with 0, rises, and ends at the number of all; what it passes over is not in it
pub record IsChain (ns : List ℕ) : Type 0 where
  pub first : 0 < link ns 0
  pub rises : (x : ℕ) → 0 < link ns x → x < link ns x
  pub within : (x : ℕ) → link ns x ≤ length ns
  pub linked : (x : ℕ) → 0 < link ns x → link ns x < length ns → 0 < link ns (link ns x)
  pub passed : (x k : ℕ) → x < k → k < link ns x → link ns k ≡ 0

-- x has joined the chain, and those in it stay there
pub record Joins (x : ℕ) (old new : List ℕ) : Type 0 where
  pub chain : IsChain new
  pub size : length new ≡ length old
  pub joined : 0 < link new x
  pub kept : (k : ℕ) → 0 < link old k → 0 < link new k

-- the chain enters the numbers from `first` up to `end` at `head`, or passes over them
pub record Enters (ns : List ℕ) (first end head : ℕ) : Type 0 where
  pub from : first ≤ head
  pub there : head < end → 0 < link ns head
  pub passed : (k : ℕ) → first ≤ k → k < head → k < end → link ns k ≡ 0

-- `mid` is a number of the chain from `head` on and below `end`, or `end`
pub record Cuts (ns : List ℕ) (head end mid : ℕ) : Type 0 where
  pub within : mid ≤ end
  pub from : mid < end → head ≤ mid
  pub there : mid < end → 0 < link ns mid

-- ---- lanes

-- a process that does not run, and of which no event waits
pub record IsIdle (s : Lane) : Type 0 where
  pub events : s.outbox.events ≡ []
  pub rests : is_running s ≡ false

-- each process that is not in the chain is idle
abbrev pub OthersIdle : List ℕ → List Lane → Type 0
OthersIdle ns ss = (j : ℕ) → j < length ss → link ns j ≡ 0 → IsIdle (lane ss j)

-- a chain of the processes, and each that is not in it is idle
pub record AreChained (ns : List ℕ) (ss : List Lane) : Type 0 where
  pub chain : IsChain ns
  pub size : length ns ≡ length ss
  pub idle : OthersIdle ns ss

-- the same of the processes from `first` on
abbrev pub OthersIdleFrom : List ℕ → ℕ → List Lane → Type 0
OthersIdleFrom ns first ss = (k : ℕ) → k < length ss → link ns (first + k) ≡ 0 → IsIdle (lane ss k)

-- a part of a chain: that of the processes from `first` on, which it enters at `head`
pub record IsPart (ns : List ℕ) (first head : ℕ) (ss : List Lane) : Type 0 where
  pub few : first + length ss ≤ MAX_PROCESSES
  pub chain : IsChain ns
  pub size : first + length ss ≤ length ns
  pub enters : Enters ns first (first + length ss) head
  pub idle : OthersIdleFrom ns first ss
