use Rattle.std.proofs.Common.{◌∙◌, sym, arith, subst, ap}
use Rattle.fm_program.specs.State.{frame_entry}
use Rattle.fm_player.specs.Drawing.{FramesStand}
use Rattle.fm_player.proofs.FrameLemmas.{FramesStand-stored, FramesStand-moved, cycle_entry-frame, cycle_moved-none, frame_at-none}
use Rattle.fm_player.proofs.draws.next_entry.Goals as goal

pub returns-then-at-frames-clause-entry : goal.returns-then-at-frames-clause-entry
returns-then-at-frames-clause-entry c = λ fs stands.
    c.next.ensures.entry _ (FramesStand-stored _ _ fs _ _ stands c.if-at-frames.true)
    ∙ sym (cycle_entry-frame c.args.frame fs)

pub returns-then-at-frames-clause-moved : goal.returns-then-at-frames-clause-moved
returns-then-at-frames-clause-moved c = λ fs stands.
    FramesStand-moved _ _ fs _ _ stands c.if-at-frames.true
    (c.next.ensures.moved _ (FramesStand-stored _ _ fs _ _ stands c.if-at-frames.true))

pub returns-else-at-frames-clause-entry : goal.returns-else-at-frames-clause-entry
returns-else-at-frames-clause-entry c = λ fs stands.
    sym (cycle_entry-frame c.args.frame fs ∙ ap frame_entry (frame_at-none c.args.frame fs (omega (arith, stands.count))))

pub returns-else-at-frames-clause-moved : goal.returns-else-at-frames-clause-moved
returns-else-at-frames-clause-moved c = λ fs stands.
    subst (FramesStand _ c.args.frames.now) (sym (cycle_moved-none c.args.frame fs (omega (arith, stands.count)))) stands
