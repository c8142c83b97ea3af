-- The rest decides.
use Rattle.std.proofs.Common.{◌≡◌, drop}
use Rattle.std.specs.Prelude.{nat_lt}
use Rattle.std.specs.List.{list_all}
use Rattle.fm_hall.proofs.checks.are_all_below.Given as goal

abbrev pub invariant-loop-predecessor : goal.invariant-loop-predecessor
invariant-loop-predecessor l =
    list_all (λ q. nat_lt q l.process) l.predecessors
    ≡ list_all (λ q. nat_lt q l.process) (drop l.predecessor-index l.predecessors)
