-- The events of the lines before this one.
use Rattle.std.proofs.Common.{◌≡◌, length}
use Rattle.fm_line.specs.Line.{line, sum_below}
use Rattle.fm_hall.proofs.hall.count_events.Given as goal

abbrev pub invariant-loop-i : goal.invariant-loop-i
invariant-loop-i l = l.count ≡ sum_below l.i (λ p. length (line l.lines p).events)
