-- Where the large scores of some numbers end: the least and the greatest stretch, the fewest and the most notes.
use Rattle.std.proofs.Common.{◌≡◌, [], ◌∷◌, map, refl}
use Rattle.fm_gen.specs.declared.score.TheConstants.{MAX_NUMBER}
use Rattle.fm_large.specs.LargePerformance.{large_end}

some_ends : map large_end (0 ∷ 1 ∷ 24 ∷ 124 ∷ 125 ∷ 499 ∷ 500 ∷ 999 ∷ 1000 ∷ MAX_NUMBER ∷ [])
    ≡ 121800 ∷ 241803 ∷ 3001915 ∷ 15002395 ∷ 122400 ∷ 15004195 ∷ 124200 ∷ 15006595 ∷ 121800 ∷ 15006595 ∷ []
some_ends = refl
