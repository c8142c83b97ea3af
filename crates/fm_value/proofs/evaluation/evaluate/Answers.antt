use Rattle.std.proofs.Common.{◌++◌, [], ◌∷◌, length, sym, ap, ◌∙◌, arith, rules, w64, SFits}
use Rattle.std.proofs.Math.Facts.{to_z-of_z}
use Rattle.std.proofs.lemmas.List.Elements.{All-push}
use Rattle.fm_value.specs.Operation.{IsWithin}
use Rattle.fm_value.proofs.Stacks.{split}
use Rattle.fm_value.proofs.Evaluations.{expr_parts, node_fits_at, goes, evaluated}
use Rattle.fm_value.proofs.evaluation.evaluate.Goals as goal

pub compute-value-requires : goal.compute-value-requires
compute-value-requires g c =
    let parts = expr_parts (length c.args.indices.now) c.args.expr.now.nodes.items c.requires.expr in
    let fits = node_fits_at _ c.args.expr.now.nodes.items _ _ _ c.deref-node-items.ensures.value parts.each c.loop-node-test.true in
    let next = goes _ _ _ _ _ _ _ _ c.deref-node-items.ensures.value parts.whole c.loop-node-test.true
    c.loop-node.invariant.evaluating in
    (search rules, (fits, (next.there, (c.loop-node.invariant.within, c.requires.indices))))

pub push-requires : goal.push-requires
push-requires g c =
    let below = c.loop-node.invariant.short in
    let kept = c.compute-value.ensures.len in
    let here = c.loop-node-test.true in
    let same = ap length c.deref-node-items.ensures.value in
    let room = c.requires.room in omega arith

pub take-requires : goal.take-requires
take-requires g c =
    let parts = expr_parts (length c.args.indices.now) c.args.expr.now.nodes.items c.requires.expr in
    let low = c.loop-node-test.false in
    let high = c.loop-node.auto.node-index-end in
    let same = ap length c.deref-node-items.ensures.value in
    let end = evaluated _ _ _ _ _ _ parts.whole (omega arith) c.loop-node.invariant.evaluating in
    let one = ap length end.only in
    (search rules, (omega arith, c.loop-node.invariant.within))

pub loop-node-preserved : goal.loop-node-preserved
loop-node-preserved g c =
    let parts = expr_parts (length c.args.indices.now) c.args.expr.now.nodes.items c.requires.expr in
    let next = goes _ _ _ _ _ _ _ _ c.deref-node-items.ensures.value parts.whole c.loop-node-test.true
    c.loop-node.invariant.evaluating in
    let fits : SFits w64 c.compute-value.result = record { sfits = c.compute-value.type_inv } in
    let items = c.push.ensures.items ∙ ap (λ x. c.compute-value.new.operands.items ++ x ∷ []) (to_z-of_z fits) in
    record {
      evaluating = rw items (next.on _ _ c.compute-value.ensures.value);
      within = rw items (All-push IsWithin _ _ c.compute-value.ensures.operands c.compute-value.ensures.within);
      short = (let below = c.loop-node.invariant.short in
          let kept = c.compute-value.ensures.len in
          let more = c.push.ensures.len in
          omega arith);
    }

pub returns-clause-value : goal.returns-clause-value
returns-clause-value g c =
    let parts = expr_parts (length c.args.indices.now) c.args.expr.now.nodes.items c.requires.expr in
    let low = c.loop-node-test.false in
    let high = c.loop-node.auto.node-index-end in
    let same = ap length c.deref-node-items.ensures.value in
    let end = evaluated _ _ _ _ _ _ parts.whole (omega arith) c.loop-node.invariant.evaluating in
    let fits : SFits w64 c.take.result = record { sfits = c.take.type_inv } in
    to_z-of_z fits ∙ sym (split [] _ _ _ (end.only ∙ c.take.ensures.value)).last

pub returns-clause-dice : goal.returns-clause-dice
returns-clause-dice g c =
    let parts = expr_parts (length c.args.indices.now) c.args.expr.now.nodes.items c.requires.expr in
    let low = c.loop-node-test.false in
    let high = c.loop-node.auto.node-index-end in
    let same = ap length c.deref-node-items.ensures.value in
    sym (evaluated _ _ _ _ _ _ parts.whole (omega arith) c.loop-node.invariant.evaluating).after
