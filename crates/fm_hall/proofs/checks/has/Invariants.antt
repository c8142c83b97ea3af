-- The rest decides.
use Rattle.std.proofs.Common.{◌≡◌, drop}
use Rattle.fm_line.specs.Validity.{has_number}
use Rattle.fm_hall.proofs.checks.has.Given as goal

abbrev pub invariant-loop-other : goal.invariant-loop-other
invariant-loop-other l = has_number l.process l.among ≡ has_number l.process (drop l.other-index l.among)
