use Rattle.std.proofs.Common.{arith}
use Rattle.fm_warp.specs.declared.side.Side.TheVariants.{Onset}
use Rattle.fm_nest.proofs.NestingLemmas.{FitsLevels-limited}
use Rattle.fm_nest.proofs.ReadinessLemmas.{ReadyFrom-later}
use Rattle.fm_player.proofs.TimeLemmas.{IsTimed-asked}
use Rattle.fm_player.proofs.timeline.Timeline.sound.Goals as goal

pub overflow_add-next : goal.overflow_add-next
overflow_add-next c = omega (arith, FitsLevels-limited Onset c.args.warps.now _ _ c.requires.fits.fits)

pub ending-ending-requires-clause-limited : goal.ending-ending-requires-clause-limited
ending-ending-requires-clause-limited c =
    omega (arith, c.requires.to, c.requires.short, FitsLevels-limited Onset c.args.warps.now _ _ c.requires.fits.fits)

pub onset-self-requires-clause-ready : goal.onset-self-requires-clause-ready
onset-self-requires-clause-ready c =
    ReadyFrom-later Onset c.args.warps.now c.ending-ending.new.self.nest c.args.self.now.position _ (omega arith)
    c.ending-ending.ensures.onsets

pub returns-clause-timed : goal.returns-clause-timed
returns-clause-timed c =
    IsTimed-asked c.args.warps.now c.ending-ending.new.self.nest _ c.onset-self.ensures.frames
    (rw (c.ending-ending.ensures.frames, c.from.ensures) c.requires.fits)
    c.onset-self.ensures.ready (c.onset-self.ensures.other c.args.warps.now)
    c.ending-ending.ensures.endings
    c.onset-self.ensures.value
