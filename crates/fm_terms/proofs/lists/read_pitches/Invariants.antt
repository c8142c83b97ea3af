use Rattle.std.proofs.Common.{length, map}
use Rattle.fm_grammar.specs.View.{pitch_view}
use Rattle.fm_grammar.specs.Spelling.{pitch_text}
use Rattle.fm_grammar.specs.Standing.{pitch_tree}
use Rattle.fm_grammar.specs.Rules.{pitches}
use Rattle.fm_terms.proofs.Growing.{Growing}
use Rattle.fm_terms.proofs.lists.read_pitches.Given as goal

abbrev pub invariant-loop-alloc : goal.invariant-loop-alloc
invariant-loop-alloc l = Growing pitch_text pitch_tree pitches (map pitch_view l.list.items) l.fn.r l.r

abbrev pub decreases-loop-alloc : goal.decreases-loop-alloc
decreases-loop-alloc l = length l.r
