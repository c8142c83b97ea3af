-- It holds of none below.
use Rattle.std.proofs.Common.{◌≡◌, ℕ, ◌<◌, false}
use Rattle.fm_progress.specs.NextStep.{startable}
use Rattle.fm_hall.proofs.searches.first_starting.Given as goal

abbrev pub invariant-loop-process : goal.invariant-loop-process
invariant-loop-process l = (q : ℕ) → q < l.process → startable l.rules l.tables.state q ≡ false
