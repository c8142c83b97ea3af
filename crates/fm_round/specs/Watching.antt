-- Which processes may have something to do, and which follow one that ends.
use Rattle.std.specs.Prelude.{◌≡◌, ℕ, zero, suc, ◌<◌, ◌≤◌, ◌⊎◌, List, [], ◌∷◌, ◌++◌, length, slice_index_or, Bool, false, Option, None, Vec, Contains, option_to_list}
use Rattle.std.specs.Global.{Global}
use Rattle.fm_program.specs.Parts.{PlanParts}
use Rattle.fm_round.specs.Chain.{IsChain, OthersIdle, link}
use Rattle.fm_round.specs.Lanes.{AreProcesses, IsWaiting, predecessors, lane}
use Rattle.fm_round.specs.declared.lane.Lane.{Lane}
use Rattle.fm_round.specs.declared.watch.Watch.{Watch}

-- ---- lists

-- the list of the process q
abbrev pub list_of : List (Vec ℕ Global) → ℕ → List ℕ
list_of [] q = []
list_of (v ∷ vs) zero = v.items
list_of (v ∷ vs) (suc q) = list_of vs q

-- so many lists, all empty
pub record AreEmpty (n : ℕ) (vs : List (Vec ℕ Global)) : Type 0 where
  pub size : length vs ≡ n
  pub empty : (q : ℕ) → list_of vs q ≡ []

-- x was put into the list of q
pub record Lists (q x : ℕ) (old new : List (Vec ℕ Global)) : Type 0 where
  pub size : length new ≡ length old
  pub here : list_of new q ≡ list_of old q ++ x ∷ []
  pub others : (k : ℕ) → (k ≡ q → ⊥) → list_of new k ≡ list_of old k

-- the last one was taken out of the list of q, where it is not empty
pub record Takes (q : ℕ) (old : List (Vec ℕ Global)) (taken : Option ℕ) (new : List (Vec ℕ Global)) : Type 0 where
  pub size : length new ≡ length old
  pub here : list_of old q ≡ list_of new q ++ option_to_list taken
  pub none : taken ≡ None → list_of new q ≡ []
  pub others : (k : ℕ) → (k ≡ q → ⊥) → list_of new k ≡ list_of old k

-- ---- predecessors

-- the i-th predecessor of the process j
abbrev pub predecessor : PlanParts → ℕ → ℕ → ℕ
predecessor p j i = slice_index_or (predecessors p j) i 0

-- each list has later processes
abbrev pub AllLater : PlanParts → List (Vec ℕ Global) → Type 0
AllLater p vs = (q k : ℕ) → Contains (list_of vs q) k → (q < k) × (k < length p.programs)

-- the first n processes are in the lists of all their predecessors
abbrev pub AllListed : PlanParts → ℕ → List (Vec ℕ Global) → Type 0
AllListed p n vs = (j i : ℕ) → j < n → i < length (predecessors p j) → Contains (list_of vs (predecessor p j i)) j

-- each process is in the lists of those predecessors that have not ended
abbrev pub AllKnown : PlanParts → List (Vec ℕ Global) → List Lane → Type 0
AllKnown p vs ss = (j i : ℕ) → j < length p.programs → i < length (predecessors p j)
    → (lane ss (predecessor p j i)).ended ≡ false → Contains (list_of vs (predecessor p j i)) j

-- the lanes of these processes are there
abbrev pub AreThere : List ℕ → List Lane → Type 0
AreThere qs ss = (i : ℕ) → i < length qs → slice_index_or qs i 0 < length ss

-- whether the i-th of these processes has ended
abbrev pub ended_at : List ℕ → List Lane → ℕ → Bool
ended_at qs ss i = (lane ss (slice_index_or qs i 0)).ended

-- ---- a watch

-- what is watched before the first round
pub record IsOpenWatch (p : PlanParts) (w : Watch) : Type 0 where
  pub chain : IsChain w.next.items
  pub size : length w.next.items ≡ length p.programs
  pub guesses : length w.guesses.items ≡ length p.programs
  pub lists : length w.followers.items ≡ length p.programs
  pub later : AllLater p w.followers.items
  pub listed : AllListed p (length p.programs) w.followers.items

-- who is not in the chain is idle, and whoever waits is in the list of each one that it waits for
pub record Watched (p : PlanParts) (w : Watch) (ss : List Lane) : Type 0 where
  pub chain : IsChain w.next.items
  pub size : length w.next.items ≡ length p.programs
  pub guesses : length w.guesses.items ≡ length p.programs
  pub lists : length w.followers.items ≡ length p.programs
  pub later : AllLater p w.followers.items
  pub idle : OthersIdle w.next.items ss
  pub known : AllKnown p w.followers.items ss

-- the processes of a plan, and what is watched of them
pub record AreWatched (p : PlanParts) (w : Watch) (ss : List Lane) : Type 0 where
  pub processes : AreProcesses p ss
  pub watch : Watched p w ss

-- a predecessor of the process j, from `at` on, is in the chain, and has j in its list
pub record Awaits (p : PlanParts) (w : Watch) (at j : ℕ) : Type 0 where
  pub index : ℕ
  pub there : index < length (predecessors p j)
  pub from : at ≤ predecessor p j index
  pub chained : 0 < link w.next.items (predecessor p j index)
  pub listed : Contains (list_of w.followers.items (predecessor p j index)) j

-- who has not started waits for one that has not ended, or is in the list of one in the chain from `at` on
abbrev pub AllAwait : PlanParts → Watch → ℕ → List Lane → Type 0
AllAwait p w at ss = (j : ℕ) → j < length ss → (lane ss j).strand ≡ None → (IsWaiting p ss j) ⊎ (Awaits p w at j)
