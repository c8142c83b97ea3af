use Rattle.std.proofs.Common.{◌≡◌, ◌∙◌, sym, ap, arith, Err}
use Rattle.std.proofs.lemmas.Grind.{common_steps}
use Rattle.fm_meaning.specs.Faults.{first_found}
use Rattle.fm_rules.specs.Found.{found, numbered}
use Rattle.fm_ranges.proofs.ListLemmas.{first_of_both, first_of_second, node_more, node_end}
use Rattle.fm_ranges.proofs.value.check_nodes.Goals as goal

pub returns-then-i-spots : goal.returns-then-i-spots
returns-then-i-spots c = sym (c.loop-i.invariant ∙ ap first_found (node_end _ _ c.loop-i.i (omega arith)))

pub returns-in_err-check_node : goal.returns-in_err-check_node
returns-in_err-check_node c =
    let e = c.in_err-check_node.field-0.0 in
    let is : c.from_residual.result ≡ Err e = grind (arith, common_steps) in
    ap found is ∙ first_of_both _ _ (numbered e) c.in_err-check_node.ensures
    ∙ sym (c.loop-i.invariant
    ∙ ap first_found (node_more c.args.nodes.now c.args.spots.now c.loop-i.i _ _ (omega arith) (omega arith)))

pub loop-i-preserved : goal.loop-i-preserved
loop-i-preserved c =
    c.loop-i.invariant
    ∙ ap first_found (node_more c.args.nodes.now c.args.spots.now c.loop-i.i _ _ (omega arith) (omega arith))
    ∙ sym (first_of_second _ _ c.in_ok-check_node.ensures)
