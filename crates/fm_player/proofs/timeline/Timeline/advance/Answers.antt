use Rattle.std.proofs.Common.{arith}
use Rattle.fm_warp.specs.declared.side.Side.TheVariants.{Onset, Ending}
use Rattle.fm_nest.proofs.NestingLemmas.{FitsLevels-limited}
use Rattle.fm_nest.proofs.ReadinessLemmas.{ReadyFrom-later}
use Rattle.fm_player.proofs.TimeLemmas.{IsTimed-asked}
use Rattle.fm_player.proofs.timeline.Timeline.advance.Goals as goal

pub overflow_add-self : goal.overflow_add-self
overflow_add-self c = omega (arith, FitsLevels-limited Onset c.args.warps.now _ _ c.requires.fits.fits)

pub onset-self-requires-clause-ready : goal.onset-self-requires-clause-ready
onset-self-requires-clause-ready c =
    ReadyFrom-later Onset c.args.warps.now c.args.self.now.nest c.args.self.now.position _ (omega arith) c.requires.timed.onsets

pub returns-clause-timed : goal.returns-clause-timed
returns-clause-timed c =
    IsTimed-asked c.args.warps.now c.args.self.now.nest _ c.onset-self.ensures.frames
    (rw c.from.ensures c.requires.fits) c.onset-self.ensures.ready
    (c.onset-self.ensures.other c.args.warps.now)
    (ReadyFrom-later Ending c.args.warps.now c.args.self.now.nest c.args.self.now.position _ (omega arith) c.requires.timed.endings)
    c.onset-self.ensures.value
