use Rattle.std.proofs.Common.{map, take, Vec, Global}
use Rattle.std.specs.Prelude.{flat_map, vec_items}
use Rattle.fm_expansion.specs.Outline.{Tables, fork_in}
use Rattle.fm_meaning.specs.Places.{fork_faults}
use Rattle.fm_outline.specs.Asking.{TellsFaults}
use Rattle.fm_outline.specs.Forking.{AreAsking}
use Rattle.fm_outline.specs.View.{Look, arms_of_blocks, block_view}
use Rattle.fm_outline.proofs.asking.branches_ask.Given as goal

-- what the branches so far ask
abbrev pub invariant-loop-branch : goal.invariant-loop-branch
invariant-loop-branch l =
    (t : Tables) (look : Look) → AreAsking t look (flat_map vec_items l.branches)
    → TellsFaults (fork_faults (fork_in t
    (arms_of_blocks (map (λ b. block_view look b.items) (take l.branch-index l.branches))))) l.needs
