-- What a seat saw in its sweep, the least pair of it, and the bound below which a process gives no event.
use Rattle.std.specs.Prelude.{ℕ, zero, suc, List, [], ◌∷◌, ◌++◌, length, map, false, if◌then◌else◌, nat_eq, nat_lt, Option, Some, None, slice_index_or}
use Rattle.fm_line.specs.Line.{line, greatest}
use Rattle.fm_core.specs.State.{Setting, State, cell_in, cell}
use Rattle.fm_core.specs.Tags.{is_unborn, is_ended}
use Rattle.fm_core.specs.declared.cell.Cell.{Cell}
use Rattle.fm_core.specs.declared.sight.Sight.{Sight}
use Rattle.fm_core.specs.declared.tag.Tag.{Tag}

-- what is read behind the end of a sweep
abbrev pub unseen : Sight
unseen = record { clock = 0; ended = false }

-- the look at this process in a sweep
abbrev pub sight : List Sight → ℕ → Sight
sight seen i = slice_index_or seen i unseen

-- what a look enters that finds this tag and clock: where the process is unborn, the greatest clock seen of its
-- predecessors
abbrev pub sight_at : Tag → ℕ → List Sight → List ℕ → Sight
sight_at tag clock seen predecessors = record {
  clock = if is_unborn tag then greatest (map (λ q. (sight seen q).clock) predecessors) else clock;
  ended = is_ended tag;
}

-- what a look at a process enters
abbrev pub sighted : Setting → State → List Sight → ℕ → Sight
sighted g h seen p = sight_at (cell h p).tag (cell h p).clock seen (line g.lines p).predecessors

-- a look at 0 begins the sweep anew, one at the next process extends it, one at the last leaves it
abbrev pub swept : List Sight → ℕ → Sight → List Sight
swept seen p x = if nat_eq p 0 then x ∷ [] else if nat_eq p (length seen) then seen ++ x ∷ [] else seen

-- the lesser of two pairs; the first of equal clocks
abbrev pub lesser : Option (ℕ × ℕ) → Option (ℕ × ℕ) → Option (ℕ × ℕ)
lesser None o = o
lesser (Some a) None = Some a
lesser (Some a) (Some b) = if nat_lt b.0 a.0 then Some b else Some a

-- the pair of a look at this process, none where it was seen ended
abbrev pub pair_at : Sight → ℕ → Option (ℕ × ℕ)
pair_at x k = if x.ended then None else Some (x.clock, k)

-- the least clock and process over those not seen ended, where the first look is at the process k
abbrev pub least_from : ℕ → List Sight → Option (ℕ × ℕ)
least_from k [] = None
least_from k (x ∷ xs) = lesser (pair_at x k) (least_from (suc k) xs)

-- the least clock and process of a sweep over those not seen ended
abbrev pub least : List Sight → Option (ℕ × ℕ)
least seen = least_from 0 seen

-- a clock where the process is born, else the greatest bound of its predecessors, through at most n births
abbrev pub bound_within : ℕ → Setting → List Cell → ℕ → ℕ
bound_within zero g cs j = 0
bound_within (suc n) g cs j =
    if is_unborn (cell_in cs j).tag then greatest (map (bound_within n g cs) (line g.lines j).predecessors)
    else (cell_in cs j).clock

-- no event that the process still computes lies below its bound
abbrev pub bound : Setting → State → ℕ → ℕ
bound g h j = bound_within (suc (length h.cells)) g h.cells j
