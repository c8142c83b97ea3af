use Rattle.std.proofs.Common.{length}
use Rattle.fm_grammar.specs.Spelling.{part_text}
use Rattle.fm_grammar.specs.Standing.{part_tree}
use Rattle.fm_grammar.specs.Rules.{parts}
use Rattle.fm_terms.proofs.Growing.{Growing}
use Rattle.fm_terms.proofs.lists.read_parts.Given as goal

abbrev pub invariant-loop-r : goal.invariant-loop-r
invariant-loop-r l = Growing part_text part_tree parts (l.list.items) l.fn.r l.r

abbrev pub decreases-loop-r : goal.decreases-loop-r
decreases-loop-r l = length l.r
