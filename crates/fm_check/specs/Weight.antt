-- What the totals of statements are up to the ceiling.
use Rattle.std.specs.Prelude.{◌≡◌, ℕ, List, slice_index_or}
use Rattle.fm_meaning.specs.Resolved.{Play, Passage, done}
use Rattle.fm_meaning.specs.Bounds.{bounds_of, bounds_in}
use Rattle.fm_expansion.specs.Outline.{Tables, passage_in}
use Rattle.fm_outline.specs.View.{Look}
use Rattle.fm_check.specs.declared.totals.sums.Sums.{Sums}
use Rattle.fm_check.specs.Saturation.{saturated}

-- of a statement
abbrev pub weight_of : (longest : ℕ) → Play → Sums
weight_of longest play = saturated (bounds_of longest play)

-- of statements in turn
abbrev pub weight_in : (longest : ℕ) → Passage → Sums
weight_in longest passage = saturated (bounds_in longest passage)

-- it is known what each phrase adds at most, by its number; what has no number adds nothing
pub record KnowsWeights (t : Tables) (phrases : List Sums) (longest : ℕ) (look : Look) : Type 0 where
  pub of_phrase : (n : ℕ)
      → slice_index_or phrases n (weight_in longest done) ≡ weight_in longest (passage_in t (look n))
