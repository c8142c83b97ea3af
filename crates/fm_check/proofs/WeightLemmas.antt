-- Totals of statements in turn and of branches, one more at the end.
use Rattle.std.proofs.Common.{◌≡◌, ℕ, List, [], ◌∷◌, ◌++◌}
use Rattle.std.proofs.Common.{refl, ap, ◌∙◌, arith}
use Rattle.std.specs.Prelude.{map}
use Rattle.fm_meaning.specs.Resolved.{Fork}
use Rattle.fm_expansion.specs.Outline.{Tables, Block, play_in, passage_in, fork_in}
use Rattle.fm_outline.specs.declared.step.Step.{Step}
use Rattle.fm_outline.specs.View.{Look, step_view, block_view, arms_of_blocks}
use Rattle.fm_meaning.specs.Bounds.{Totals, totals, plus, beside, bounds_of, bounds_in, bounds_beside}
use Rattle.fm_check.specs.declared.totals.sums.Sums.{Sums}
use Rattle.fm_check.specs.Saturation.{saturated}
use Rattle.fm_check.specs.Weight.{weight_in}

-- of branches
abbrev pub weight_beside : (longest : ℕ) → Fork → Sums
weight_beside longest branches = saturated (bounds_beside longest branches)

-- of blocks, each by itself
abbrev pub weights_of_blocks : Tables → (longest : ℕ) → List Block → List Sums
weights_of_blocks t longest blocks = map (λ b. weight_in longest (passage_in t b)) blocks

-- totals with equal columns
pub same_totals : {p q o m l k e d s t : ℕ} → p ≡ q → o ≡ m → l ≡ k → e ≡ d → s ≡ t → totals p o l e s ≡ totals q m k d t
same_totals p o l e s = cc

-- nothing more
plus_nothing : (a : Totals) → plus a (totals 0 0 0 0 0) ≡ plus (totals 0 0 0 0 0) a
plus_nothing a = same_totals (omega arith) (omega arith) (omega arith) (omega arith) (omega arith)

-- in any order
pub plus_plus : (a b d : Totals) → plus a (plus b d) ≡ plus (plus a b) d
plus_plus a b d = same_totals (omega arith) (omega arith) (omega arith) (omega arith) (omega arith)

-- one statement more
pub bounds_more : (longest : ℕ) (t : Tables) (look : Look) (xs : List Step) (x : Step)
    → bounds_in longest (passage_in t (block_view look (xs ++ x ∷ [])))
    ≡ plus (bounds_in longest (passage_in t (block_view look xs))) (bounds_of longest (play_in t (step_view look x).what))
bounds_more longest t look [] x = plus_nothing (bounds_of longest (play_in t (step_view look x).what))
bounds_more longest t look (y ∷ xs) x =
    ap (plus (bounds_of longest (play_in t (step_view look y).what))) (bounds_more longest t look xs x)
    ∙ plus_plus (bounds_of longest (play_in t (step_view look y).what)) (bounds_in longest (passage_in t (block_view look xs)))
    (bounds_of longest (play_in t (step_view look x).what))

-- two branches in either order
beside_beside : (a b d : Totals) → beside a (beside b d) ≡ beside b (beside a d)
beside_beside a b d = same_totals (omega arith) (omega arith) (omega arith) (omega arith) (omega arith)

-- one branch more
pub beside_more : (longest : ℕ) (t : Tables) (bs : List Block) (b : Block)
    → bounds_beside longest (fork_in t (arms_of_blocks (bs ++ b ∷ [])))
    ≡ beside (bounds_in longest (passage_in t b)) (bounds_beside longest (fork_in t (arms_of_blocks bs)))
beside_more longest t [] b = refl
beside_more longest t (d ∷ bs) b =
    ap (beside (bounds_in longest (passage_in t d))) (beside_more longest t bs b)
    ∙ beside_beside (bounds_in longest (passage_in t d)) (bounds_in longest (passage_in t b))
    (bounds_beside longest (fork_in t (arms_of_blocks bs)))
