use Rattle.std.proofs.Common.{drop}
use Rattle.fm_grammar.specs.Score.{Score}
use Rattle.fm_expansion.specs.Outline.{passage_in}
use Rattle.fm_outline.specs.View.{tables_view, look_of, block_view}
use Rattle.fm_check.specs.Reached.{IsSoundOutline, Reached}
use Rattle.fm_check.proofs.totals.find_bounds.Given as goal

-- the statements that are left
abbrev pub invariant-loop-step : goal.invariant-loop-step
invariant-loop-step l = (s : Score) → IsSoundOutline l.outline s → Reached s l.before
    (passage_in (tables_view l.outline.tables) (block_view (look_of l.outline) (drop l.step-index l.outline.block.items)))
