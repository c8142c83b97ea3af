-- All predecessors below are ended.
use Rattle.std.proofs.Common.{◌≡◌, ℕ, ◌<◌, false}
use Rattle.std.specs.Prelude.{not, slice_index_or}
use Rattle.fm_core.specs.State.{cell}
use Rattle.fm_core.specs.Tags.{is_ended}
use Rattle.fm_hall.proofs.refusals.is_waiting.Given as goal

abbrev pub invariant-loop-i : goal.invariant-loop-i
invariant-loop-i l =
    (i : ℕ) → i < l.i → not (is_ended (cell l.tables.state (slice_index_or l.predecessors i 0)).tag) ≡ false
