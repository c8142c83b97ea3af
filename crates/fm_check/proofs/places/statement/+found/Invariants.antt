use Rattle.std.proofs.Common.{◌+◌, ◌*◌, map, take, Vec, Global}
use Rattle.std.specs.Prelude.{flat_map, vec_items}
use Rattle.fm_expansion.specs.Outline.{passage_in, fork_in}
use Rattle.fm_meaning.specs.Places.{passage_faults, fork_faults}
use Rattle.fm_rules.specs.Found.{IsFirst}
use Rattle.fm_outline.specs.Asking.{IsWithin, depths_view}
use Rattle.fm_outline.specs.Forking.{AreAsking}
use Rattle.fm_outline.specs.View.{Look, tables_view, block_view, arms_of_blocks}
use Rattle.fm_check.proofs.places.statement.+found.Given as goal

-- ---- how deep what is left is

abbrev pub decreases-look_at : goal.decreases-look_at
decreases-look_at l = 3 * goal.size-look_at l

abbrev pub decreases-look_through : goal.decreases-look_through
decreases-look_through l = 3 * goal.size-look_through l + 1

abbrev pub decreases-look_among : goal.decreases-look_among
decreases-look_among l = 3 * goal.size-look_among l + 2

-- ---- loops

-- the branches so far
abbrev pub invariant-look_among-loop-branch : goal.invariant-look_among-loop-branch
invariant-look_among-loop-branch l =
    (look : Look) → AreAsking (tables_view l.tables) look (flat_map vec_items l.branches) → IsWithin (depths_view l.depths)
    → IsFirst l.found (fork_faults (fork_in (tables_view l.tables)
    (arms_of_blocks (map (λ b. block_view look b.items) (take l.branch-index l.branches)))) (depths_view l.depths))

-- the statements so far
abbrev pub invariant-look_through-loop-step : goal.invariant-look_through-loop-step
invariant-look_through-loop-step l =
    (look : Look) → AreAsking (tables_view l.tables) look l.steps → IsWithin (depths_view l.depths)
    → IsFirst l.found (passage_faults (passage_in (tables_view l.tables) (block_view look (take l.step-index l.steps)))
    (depths_view l.depths))
