use Rattle.std.proofs.Common.{◌∙◌, sym, arith, ap}
use Rattle.fm_program.specs.State.{frame_index}
use Rattle.fm_player.proofs.FrameLemmas.{FramesStand-at, index_at-frame, frame_at-none}
use Rattle.fm_player.proofs.draws.shown_index.Goals as goal

pub returns-then-at-frames-clause-index : goal.returns-then-at-frames-clause-index
returns-then-at-frames-clause-index c = λ fs stands.
    c.index.ensures.index _ (FramesStand-at _ _ fs _ _ stands c.if-at-frames.true c.index-frames-at.is)
    ∙ sym (index_at-frame c.args.frame fs)

pub returns-else-at-frames-clause-index : goal.returns-else-at-frames-clause-index
returns-else-at-frames-clause-index c = λ fs stands.
    sym (index_at-frame c.args.frame fs ∙ ap frame_index (frame_at-none c.args.frame fs (omega (arith, stands.count))))
