-- So many events went, each of them at most the key.
use Rattle.fm_buffer.proofs.Through.{IsGathered}
use Rattle.fm_buffer.proofs.outbox.gather_through.Given as goal

abbrev pub invariant-loop-index : goal.invariant-loop-index
invariant-loop-index l = IsGathered l.key l.events l.initial.gather l.gather l.index
