-- Nothing below has changed.
use Rattle.std.proofs.Common.{◌≡◌, ℕ, ◌<◌, false}
use Rattle.fm_progress.specs.Left.{changed_in}
use Rattle.fm_hall.proofs.searches.has_stale_sweep.Given as goal

abbrev pub invariant-loop-i : goal.invariant-loop-i
invariant-loop-i l = (q : ℕ) → q < l.i → changed_in l.rules l.tables.state l.sweep q ≡ false
