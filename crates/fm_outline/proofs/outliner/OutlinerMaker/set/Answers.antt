use Rattle.std.proofs.Common.{◌∙◌, sym, refl}
use Rattle.fm_grammar.specs.Score as tree
use Rattle.fm_grammar.specs.View.{expr_view}
use Rattle.fm_outline.proofs.CallLemmas.{none_of}
use Rattle.fm_outline.proofs.ForkLemmas.{leaf_marks}
use Rattle.fm_outline.proofs.outliner.OutlinerMaker.set.Goals as goal

pub returns : goal.returns
returns c =
    let going = none_of c.args.self.now.fault (sym c.is_some.ensures ∙ c.if-is_some.false) in
    c.finish.ensures c.args.self.now (tree.set c.args.register (expr_view c.args.value)) going going refl
    (λ k look knows. c.set-made.ensures.view k look)
    (λ look v knows. leaf_marks c.args.self.now.sketch.walk.known.needs.items v look c.set-made.result c.set-made.ensures.leaf)
