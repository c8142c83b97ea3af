use Rattle.std.proofs.Common.{All, length, refl, sym, subst, arith, ap}
use Rattle.fm_program.specs.Parts.{stock_parts}
use Rattle.fm_player.specs.Drawing.{IsFrame}
use Rattle.fm_player.proofs.FrameLemmas.{entry-draws, refilled}
use Rattle.fm_player.proofs.draws.Draws.entry.Goals as goal

pub returns-clause-draws : goal.returns-clause-draws
returns-clause-draws c =
    let lent = ap length c.as_mut_slice.ensures.value in
    entry-draws (stock_parts c.args.stock.now) c.args.self.now _ c.as_mut_slice.result.now c.next_entry.new.frames c.args.frame
    c.next_entry.result refl refl c.as_mut_slice.ensures.value
    (refilled c.args.self.now.frames.items c.next_entry.new.frames (omega (arith, lent)))
    c.next_entry.ensures.entry c.next_entry.ensures.moved

pub returns-clause-frames : goal.returns-clause-frames
returns-clause-frames c =
    let lent = ap length c.as_mut_slice.ensures.value in
    subst (All (IsFrame (stock_parts c.args.stock.now)))
    (sym (refilled c.args.self.now.frames.items c.next_entry.new.frames (omega (arith, lent)))) c.next_entry.ensures.frames
