-- The greatest so far and the greatest of the rest are the greatest of all.
use Rattle.std.proofs.Common.{◌≡◌, max, drop, map}
use Rattle.fm_line.specs.Line.{line, greatest}
use Rattle.fm_state.proofs.sweeps.greatest_end.Given as goal

abbrev pub invariant-loop-process : goal.invariant-loop-process
invariant-loop-process l =
    max l.most (greatest (map (λ q. (line l.lines q).end) (drop l.process-index l.processes)))
    ≡ greatest (map (λ q. (line l.lines q).end) l.processes)
