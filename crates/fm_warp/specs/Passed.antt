-- What the parts of a deformation up to one of them add.
use Rattle.std.specs.Prelude.{◌≡◌, ℕ, ◌+◌, ◌*◌, ◌<◌, ◌≤◌, List, length, take, get_or, sum_by, All, ◌++◌, if◌then◌else◌, nat_lt}
use Rattle.fm_tick.specs.declared.tick.TheConstants.{MAX_TICK}
use Rattle.fm_warp.specs.declared.part.Part.{Part}
use Rattle.fm_warp.specs.declared.part.TheConstants.{MAX_PART_TICKS}
use Rattle.fm_warp.specs.declared.passed.Passed.{Passed}
use Rattle.fm_warp.specs.declared.side.Side.{Side}
use Rattle.fm_warp.specs.declared.side.Side.TheVariants.{Onset, Ending}
use Rattle.fm_warp.specs.declared.warp.TheConstants.{MAX_PARTS}
use Rattle.fm_warp.specs.Deformation.{IsPart, deformed, length_of, sum_from}

-- the position at which parts end
abbrev pub end_of : List Part → ℕ
end_of parts = sum_by length_of parts

-- what they add at x, their end or a position above it
abbrev pub added_of : Side → Passed → ℕ → ℕ
added_of Onset passed x = passed.onset
added_of Ending passed x = if nat_lt passed.position x then passed.onset else passed.ending

-- there is room for one part more
pub record IsSmall (passed : Passed) : Type 0 where
  pub position : passed.position < MAX_TICK
  pub onset : passed.onset < MAX_TICK
  pub ending : passed.ending < MAX_TICK

-- these parts add this: whatever parts come behind them, from their end on the sum over all parts is
-- what they add and the sum over those behind
pub record Adds (parts : List Part) (passed : Passed) : Type 0 where
  pub end : passed.position ≡ end_of parts
  pub position : passed.position ≤ MAX_PART_TICKS * length parts
  pub onset : passed.onset ≤ 1000 * MAX_PART_TICKS * length parts
  pub ending : passed.ending ≤ 1000 * MAX_PART_TICKS * length parts
  pub splits : (side : Side) (rest : List Part) (x : ℕ) → passed.position ≤ x →
      deformed side (parts ++ rest) x ≡ added_of side passed x + sum_from side rest passed.position x

-- the parts of a deformation, and for each of them what the parts up to it add
pub record KeepsSums (parts : List Part) (passed : List Passed) : Type 0 where
  pub few : length parts ≤ MAX_PARTS
  pub in_range : All IsPart parts
  pub one_each : length passed ≡ length parts
  pub adds : (i : ℕ) (d : Passed) → i < length parts → Adds (take (i + 1) parts) (get_or passed i d)
