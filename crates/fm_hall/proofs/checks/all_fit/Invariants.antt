-- All below are as they must be.
use Rattle.std.proofs.Common.{◌≡◌, ℕ, ◌<◌, true}
use Rattle.fm_line.specs.Validity.{line_valid}
use Rattle.fm_hall.proofs.checks.all_fit.Given as goal

abbrev pub invariant-loop-i : goal.invariant-loop-i
invariant-loop-i l = (q : ℕ) → q < l.i → line_valid l.lines q ≡ true
