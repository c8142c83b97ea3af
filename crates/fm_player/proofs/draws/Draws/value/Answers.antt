use Rattle.std.proofs.Common.{◌≡◌, ◌<◌, List, length, map, arith, sym, ◌∙◌, refl, ap, subst, true, w64, SFits, []}
use Rattle.std.proofs.lemmas.List.{length-map}
use Rattle.std.proofs.Math.Facts.{to_z-of_z}
use Rattle.fm_value.specs.declared.node.Node.{Node}
use Rattle.fm_value.specs.Value.{is_expr}
use Rattle.fm_program.specs.Parts.{stock_parts, expr_nodes}
use Rattle.fm_program.specs.State.{Standing, slot_index}
use Rattle.fm_program.specs.Action.{expr_at, scope_at}
use Rattle.fm_player.specs.Drawing.{DrawsStand}
use Rattle.fm_player.proofs.StockLemmas.{looked_up, value-draws, expr-fits}
use Rattle.fm_player.proofs.draws.Draws.value.Goals as goal

pub value-requires-clause-expr : goal.value-requires-clause-expr
value-requires-clause-expr c =
    let t = stock_parts c.args.stock.now in
    let counted : length c.as_slice.result.now ≡ length (scope_at t c.args.scope) =
    ap length c.as_slice.ensures.value ∙ c.put_indices.ensures.count in
    let known = expr-fits t (length (scope_at t c.args.scope)) c.args.expr (expr_at t c.args.expr) c.requires.expr refl in
    let held : c.args.expr < length c.args.stock.now.exprs.items =
    omega (arith, known.0, length-map c.args.stock.now.exprs.items expr_nodes) in
    let nodes : c.index.result.now.nodes.items ≡ expr_at t c.args.expr =
    looked_up expr_nodes _ c.args.expr _ [] c.index.ensures held in
    let P : List Node → Type 0 = λ ns. is_expr (length c.as_slice.result.now) ns ≡ true in
    subst P (sym nodes) (rw counted known.1)

pub returns-clause-draws : goal.returns-clause-draws
returns-clause-draws c =
    let t = stock_parts c.args.stock.now in
    let fits : SFits w64 c.value.result = record { sfits = c.value.type_inv } in
    let known = expr-fits t (length (scope_at t c.args.scope)) c.args.expr (expr_at t c.args.expr) c.requires.expr refl in
    let held : c.args.expr < length c.args.stock.now.exprs.items =
    omega (arith, known.0, length-map c.args.stock.now.exprs.items expr_nodes) in
    let nodes : c.index.result.now.nodes.items ≡ expr_at t c.args.expr =
    looked_up expr_nodes _ c.args.expr _ [] c.index.ensures held in
    let reads : (s : Standing) → DrawsStand t c.args.self.now s
    → c.as_slice.result.now ≡ map (slot_index s.frames) (scope_at t c.args.scope) =
    λ s stands. c.as_slice.ensures.value ∙ c.put_indices.ensures.indices s stands in
    value-draws t c.args.self.now _ _ c.args.expr c.args.scope c.as_slice.result.now c.index.result.now.nodes.items refl refl nodes
    reads (to_z-of_z fits ∙ c.value.ensures.value) c.value.ensures.dice
