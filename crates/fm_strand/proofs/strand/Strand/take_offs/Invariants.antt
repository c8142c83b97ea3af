use Rattle.fm_player.specs.Player as player
use Rattle.fm_strand.proofs.TakingLemmas.{Taking}
use Rattle.fm_strand.proofs.strand.Strand.take_offs.Given as goal

abbrev pub invariant-loop-off : goal.invariant-loop-off
invariant-loop-off l = Taking l.plan l.fn.self l.self

abbrev pub decreases-loop-off : goal.decreases-loop-off
decreases-loop-off l = player.steps_left l.plan l.self.player
