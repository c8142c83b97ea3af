use Rattle.std.proofs.Common.{length}
use Rattle.fm_parts.proofs.TallyLemmas.{Tallying}
use Rattle.fm_parts.proofs.tally.tally_of.Given as goal

abbrev pub invariant-loop-entry : goal.invariant-loop-entry
invariant-loop-entry l = Tallying l.tally l.now l.entries l.initial.entries

abbrev pub decreases-loop-entry : goal.decreases-loop-entry
decreases-loop-entry l = length l.entries
