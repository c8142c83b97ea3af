-- The events so far are counted, and are few enough.
use Rattle.std.proofs.Common.{◌≡◌, ◌≤◌, length}
use Rattle.fm_line.specs.Line.{line, sum_below}
use Rattle.fm_line.specs.declared.limits.TheConstants.{MAX_EVENTS}
use Rattle.fm_hall.proofs.checks.have_few_events.Given as goal

abbrev pub invariant-loop-i : goal.invariant-loop-i
invariant-loop-i l = record { sum : l.count ≡ sum_below l.i (λ p. length (line l.lines p).events); few : l.count ≤ MAX_EVENTS }
