-- It holds of none below.
use Rattle.std.proofs.Common.{◌≡◌, ℕ, ◌<◌, false}
use Rattle.fm_core.specs.State.{cell}
use Rattle.fm_core.specs.Tags.{is_held}
use Rattle.fm_hall.proofs.searches.first_held.Given as goal

abbrev pub invariant-loop-process : goal.invariant-loop-process
invariant-loop-process l = (q : ℕ) → q < l.process → is_held (cell l.tables.state q).tag ≡ false
