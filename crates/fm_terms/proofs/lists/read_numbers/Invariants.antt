use Rattle.std.proofs.Common.{length}
use Rattle.fm_grammar.specs.Spelling.{num_text}
use Rattle.fm_grammar.specs.Standing.{num_tree}
use Rattle.fm_grammar.specs.Rules.{numbers}
use Rattle.fm_terms.proofs.Growing.{Growing}
use Rattle.fm_terms.proofs.lists.read_numbers.Given as goal

abbrev pub invariant-loop-r : goal.invariant-loop-r
invariant-loop-r l = Growing num_text num_tree numbers (l.list.items) l.fn.r l.r

abbrev pub decreases-loop-r : goal.decreases-loop-r
decreases-loop-r l = length l.r
