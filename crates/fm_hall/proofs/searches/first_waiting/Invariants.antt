-- It holds of none below.
use Rattle.std.proofs.Common.{◌≡◌, ℕ, ◌<◌, false}
use Rattle.fm_progress.specs.Left.{waits_for_visit}
use Rattle.fm_hall.proofs.searches.first_waiting.Given as goal

abbrev pub invariant-loop-process : goal.invariant-loop-process
invariant-loop-process l = (q : ℕ) → q < l.process → waits_for_visit l.rules l.tables.state q ≡ false
