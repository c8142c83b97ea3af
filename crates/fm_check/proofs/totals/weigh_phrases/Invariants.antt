use Rattle.std.proofs.Common.{◌≡◌, ℕ, map, take}
use Rattle.std.specs.Prelude.{vec_items}
use Rattle.fm_outline.specs.View.{tables_view, phrases_view}
use Rattle.fm_check.specs.Saturation.{capped}
use Rattle.fm_check.proofs.WeightLemmas.{weights_of_blocks}
use Rattle.fm_check.proofs.totals.weigh_phrases.Given as goal

-- what the phrases so far add
abbrev pub invariant-loop-phrase : goal.invariant-loop-phrase
invariant-loop-phrase l =
    (n : ℕ) → l.longest ≡ capped n
    → l.sums.items ≡ weights_of_blocks (tables_view l.tables) n (phrases_view (map vec_items (take l.phrase-index l.phrases)))
