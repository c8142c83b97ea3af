use Rattle.std.proofs.Common.{ℕ, [], ◌∷◌, ◌++◌, ◌∙◌, slice_index_or, ap, arith}
use Rattle.fm_program.specs.Parts.{stock_parts}
use Rattle.fm_player.specs.declared.frame.Frame.TheVariants.{Cycling}
use Rattle.fm_player.proofs.StockLemmas.{opened-more}
use Rattle.fm_player.proofs.draws.Draws.new.Goals as goal

pub loop-list-preserved : goal.loop-list-preserved
loop-list-preserved c =
    let more = opened-more (stock_parts c.args.stock.now) c.args.lists.now c.loop-list.list-index 0 c.loop-list.frames.items
    c.push.new.self.items c.requires.stock c.requires.named c.loop-list-test.true c.loop-list.invariant.1 c.loop-list.invariant.2
    (c.push.ensures.items
    ∙ ap (λ (n : ℕ). c.loop-list.frames.items ++ Cycling (slice_index_or c.args.lists.now c.loop-list.list-index 0) n ∷ [])
    c.new.ensures) in
    (omega (arith, c.push.ensures.len, c.loop-list.invariant.0), more.0, more.1)
