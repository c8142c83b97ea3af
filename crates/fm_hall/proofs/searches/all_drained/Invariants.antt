-- It holds of none below.
use Rattle.std.proofs.Common.{◌≡◌, ℕ, ◌<◌, false}
use Rattle.std.specs.Prelude.{not}
use Rattle.fm_core.specs.State.{cell}
use Rattle.fm_core.specs.Tags.{is_drained}
use Rattle.fm_hall.proofs.searches.all_drained.Given as goal

abbrev pub invariant-loop-process : goal.invariant-loop-process
invariant-loop-process l = (q : ℕ) → q < l.process → not (is_drained (cell l.tables.state q).tag) ≡ false
