-- It holds of none below.
use Rattle.std.proofs.Common.{◌≡◌, ℕ, ◌<◌, false}
use Rattle.fm_core.specs.Steps.{unvisited}
use Rattle.fm_hall.proofs.searches.first_unvisited.Given as goal

abbrev pub invariant-loop-process : goal.invariant-loop-process
invariant-loop-process l = (q : ℕ) → q < l.process → unvisited l.tables.state q ≡ false
