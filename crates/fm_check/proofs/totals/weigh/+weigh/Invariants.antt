use Rattle.std.proofs.Common.{◌≡◌, ℕ, take, map}
use Rattle.fm_expansion.specs.Outline.{passage_in, fork_in}
use Rattle.fm_outline.specs.View.{Look, tables_view, block_view, arms_of_blocks}
use Rattle.fm_check.specs.Saturation.{capped}
use Rattle.fm_outline.specs.Forking.{AreMarked, IsMarked}
use Rattle.fm_check.specs.Weight.{weight_in, KnowsWeights}
use Rattle.fm_check.proofs.WeightLemmas.{weight_beside}
use Rattle.fm_check.proofs.totals.weigh.+weigh.Given as goal

-- the statements so far
abbrev pub invariant-weigh_steps-loop-step : goal.invariant-weigh_steps-loop-step
invariant-weigh_steps-loop-step l =
    (n : ℕ) (look : Look) → l.longest ≡ capped n → AreMarked look l.steps → KnowsWeights (tables_view l.tables) l.phrases n look
    → l.sums ≡ weight_in n (passage_in (tables_view l.tables) (block_view look (take l.step-index l.steps)))

-- the branches so far
abbrev pub invariant-weigh_step-loop-branch : goal.invariant-weigh_step-loop-branch
invariant-weigh_step-loop-branch l =
    (n : ℕ) (look : Look) → l.longest ≡ capped n → IsMarked look l.step → KnowsWeights (tables_view l.tables) l.phrases n look
    → l.sums ≡ weight_beside n
    (fork_in (tables_view l.tables) (arms_of_blocks (map (λ b. block_view look b.items) (take l.branch-index l.branch-items))))
