use Rattle.std.proofs.Common.{length}
use Rattle.fm_grammar.specs.Spelling.{length_text}
use Rattle.fm_grammar.specs.Standing.{length_tree}
use Rattle.fm_grammar.specs.Rules.{lengths}
use Rattle.fm_terms.proofs.Growing.{Growing}
use Rattle.fm_terms.proofs.lists.read_lengths.Given as goal

abbrev pub invariant-loop-r : goal.invariant-loop-r
invariant-loop-r l = Growing length_text length_tree lengths (l.list.items) l.fn.r l.r

abbrev pub decreases-loop-r : goal.decreases-loop-r
decreases-loop-r l = length l.r
