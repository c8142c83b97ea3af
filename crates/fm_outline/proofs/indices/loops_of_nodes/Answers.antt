use Rattle.std.proofs.Common.{◌∙◌, refl}
use Rattle.fm_meaning.specs.Places.{is_outside, has_outside}
use Rattle.fm_outline.proofs.PassageLemmas.{any_passed}
use Rattle.fm_outline.proofs.indices.loops_of_nodes.Goals as goal

pub loop-node-preserved : goal.loop-node-preserved
loop-node-preserved c = λ k.
    rw c.max-loops.ensures
    (any_passed (is_outside k) (has_outside k) c.args.nodes.now c.loop-node.node-index _ c.loop-node.loops c.loops_of_node.result k
    (λ y ys. refl) c.loop-node-test.true (c.loops_of_node.ensures k)
    ∙ c.loop-node.invariant k)
