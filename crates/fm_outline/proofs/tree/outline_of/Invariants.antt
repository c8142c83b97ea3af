use Rattle.std.proofs.Common.{map, drop}
use Rattle.fm_grammar.specs.View.{score_view, entry_view}
use Rattle.fm_outline.proofs.SketchLemmas.{ToldBefore}
use Rattle.fm_outline.proofs.tree.outline_of.Given as goal

-- all was reported but the entries that are left
abbrev pub invariant-loop-entry : goal.invariant-loop-entry
invariant-loop-entry l = ToldBefore l.outliner (score_view l.score) (map entry_view (drop l.entry-index l.entry-items))
