-- What the least pair of a sweep is, in its own words.
use Rattle.std.specs.Prelude.{◌≡◌, ℕ, ◌<◌, List, length, true, false, Option, Some, None}
use Rattle.fm_core.specs.Invariant.{NotBelow}
use Rattle.fm_core.specs.Sweep.{sight}
use Rattle.fm_core.specs.declared.sight.Sight.{Sight}

-- the clock m of the process i, which was seen and not seen ended; no other such pair is below it
pub record Lowest (seen : List Sight) (m i : ℕ) : Type 0 where
  pub below : i < length seen
  pub open_there : (sight seen i).ended ≡ false
  pub clock : (sight seen i).clock ≡ m
  pub lower : (j : ℕ) → j < length seen → (sight seen j).ended ≡ false → NotBelow m i (sight seen j).clock j

-- the pair is the least one of the sweep, or there is none, and all were seen ended
abbrev pub IsLeastOf : List Sight → Option (ℕ × ℕ) → Type 0
IsLeastOf seen None = (j : ℕ) → j < length seen → (sight seen j).ended ≡ true
IsLeastOf seen (Some pair) = Lowest seen pair.0 pair.1
