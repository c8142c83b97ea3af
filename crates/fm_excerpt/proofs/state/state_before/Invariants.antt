use Rattle.std.proofs.Common.{length}
use Rattle.fm_excerpt.proofs.StateLemmas.{Going}
use Rattle.fm_excerpt.proofs.state.state_before.Given as goal

abbrev pub invariant-loop-entry : goal.invariant-loop-entry
invariant-loop-entry l = Going l.state l.begin l.now l.entries l.initial.entries

abbrev pub decreases-loop-entry : goal.decreases-loop-entry
decreases-loop-entry l = length l.entries
