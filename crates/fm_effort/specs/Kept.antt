-- How the code keeps an effort, and what an operation lies in: as numbers of 64 bits.
use Rattle.std.specs.Prelude.{◌≡◌, ℕ, ◌+◌, List, [], ◌∷◌, length, slice_index_or}
use Rattle.fm_effort.specs.declared.load.Load.{Load}
use Rattle.fm_effort.specs.declared.enclosing.Enclosing.{Enclosing}
use Rattle.fm_effort.specs.Effort.{Effort, counted, Surroundings, largest, rounds_in}

-- an effort
abbrev pub load_for : Effort → Load
load_for e = record { work = counted e.work; events = counted e.events }

-- a load with an effort more
abbrev pub with_effort : Load → Effort → Load
with_effort l e = record { work = counted (l.work + e.work); events = counted (l.events + e.events) }

-- the table has, for each open loop and for none, how often an operation there is run in all, the outermost first
abbrev pub KeepsRounds : (table : List ℕ) → (counts : List ℕ) → Type 0
KeepsRounds table [] = slice_index_or table 0 largest ≡ 1
KeepsRounds table (n ∷ ns) =
    (slice_index_or table (length (n ∷ ns)) largest ≡ counted (rounds_in (n ∷ ns))) × KeepsRounds table ns

-- what an operation lies in is kept so
pub record Encloses (e : Enclosing) (a : Surroundings) : Type 0 where
  pub rounds : KeepsRounds e.rounds a.counts
  pub loops : e.loops ≡ length a.counts
  pub levels : e.levels ≡ a.levels
  pub sure : e.sure ≡ a.sure
