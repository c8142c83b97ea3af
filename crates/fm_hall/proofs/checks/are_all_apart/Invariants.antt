-- The rest decides.
use Rattle.std.proofs.Common.{◌≡◌, drop}
use Rattle.fm_line.specs.Validity.{all_once}
use Rattle.fm_hall.proofs.checks.are_all_apart.Given as goal

abbrev pub invariant-loop-i : goal.invariant-loop-i
invariant-loop-i l = all_once l.predecessors ≡ all_once (drop l.i l.predecessors)
