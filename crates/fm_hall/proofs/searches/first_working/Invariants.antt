-- It holds of none below.
use Rattle.std.proofs.Common.{◌≡◌, ℕ, ◌<◌, false}
use Rattle.fm_progress.specs.Left.{workable}
use Rattle.fm_hall.proofs.searches.first_working.Given as goal

abbrev pub invariant-loop-process : goal.invariant-loop-process
invariant-loop-process l = (q : ℕ) → q < l.process → workable l.rules l.tables.state q ≡ false
