-- The rest decides.
use Rattle.std.proofs.Common.{◌≡◌, drop}
use Rattle.fm_line.specs.Validity.{run_valid}
use Rattle.fm_hall.proofs.checks.is_run.Given as goal

abbrev pub invariant-loop-i : goal.invariant-loop-i
invariant-loop-i l =
    run_valid l.fn.from l.end l.process 0 l.events ≡ run_valid l.low l.end l.process l.i (drop l.i l.events)
