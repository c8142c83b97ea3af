use Rattle.std.proofs.Common.{◌≡◌, ◌||◌, ℕ, nat_lt, drop}
use Rattle.fm_meaning.specs.Places.{has_outside}
use Rattle.fm_outline.proofs.indices.loops_of_nodes.Given as goal

-- the nodes that are left may ask for more
abbrev pub invariant-loop-node : goal.invariant-loop-node
invariant-loop-node l =
    (k : ℕ) → (nat_lt k l.loops || has_outside k (drop l.node-index l.nodes)) ≡ has_outside k l.nodes
