use Rattle.std.proofs.Common.{◌≡◌, drop}
use Rattle.fm_meaning.specs.Faults.{first_found}
use Rattle.fm_meaning.specs.Ranges.{node_faults}
use Rattle.fm_ranges.proofs.value.check_nodes.Given as goal

-- the first fault is that of the nodes that are left
abbrev pub invariant-loop-i : goal.invariant-loop-i
invariant-loop-i l =
    first_found (node_faults l.nodes l.spots) ≡ first_found (node_faults (drop l.i l.nodes) (drop l.i l.spots))
