-- Floors compared, and what lies within a lead of one.
use Rattle.std.specs.Prelude.{ℕ, ◌+◌, Bool, true, false, not, nat_eq, nat_lt, Option, Some, None}
use Rattle.fm_core.specs.declared.floor.Floor.{Floor}
use Rattle.fm_core.specs.declared.floor.Floor.TheVariants.{At, Done}

-- whether two floors are the same
abbrev pub floor_eq : Floor → Floor → Bool
floor_eq (At a) (At b) = nat_eq a b
floor_eq (At a) Done = false
floor_eq Done (At b) = false
floor_eq Done Done = true

-- whether a floor is at most another; done is above every tick
abbrev pub floor_le : Floor → Floor → Bool
floor_le (At a) (At b) = not (nat_lt b a)
floor_le (At a) Done = true
floor_le Done (At b) = false
floor_le Done Done = true

-- whether a time is at most the floor plus the lead; where all is done there is no bound
abbrev pub within : Floor → ℕ → ℕ → Bool
within (At f) lead t = not (nat_lt (f + lead) t)
within Done lead t = true

-- the floor that a sweep's least pair gives: its time, or done where there is no pair
abbrev pub floor_of : Option (ℕ × ℕ) → Floor
floor_of None = Done
floor_of (Some a) = At a.0
