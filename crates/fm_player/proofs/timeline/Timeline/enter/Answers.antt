use Rattle.fm_warp.specs.declared.side.Side.TheVariants.{Onset, Ending}
use Rattle.fm_nest.proofs.NestingLemmas.{FitsLevels-limited}
use Rattle.fm_nest.proofs.ReadinessLemmas.{ReadyFrom-enter}
use Rattle.fm_player.proofs.TimeLemmas.{IsTimed-asked}
use Rattle.fm_player.proofs.timeline.Timeline.enter.Goals as goal

pub enter-requires-clause-limited : goal.enter-requires-clause-limited
enter-requires-clause-limited c = FitsLevels-limited Onset c.args.warps.now _ _ c.requires.timed.fits.fits

pub onset-self-requires-clause-ready : goal.onset-self-requires-clause-ready
onset-self-requires-clause-ready c =
    ReadyFrom-enter Onset c.args.warps.now c.args.self.now.nest c.enter.new.self _ c.enter.ensures.frames
    (c.enter.ensures.asked Onset c.args.warps.now) c.requires.timed.onsets

pub returns-clause-timed : goal.returns-clause-timed
returns-clause-timed c =
    IsTimed-asked c.args.warps.now c.enter.new.self _ c.onset-self.ensures.frames
    (rw c.enter.ensures.frames c.requires.fits)
    c.onset-self.ensures.ready (c.onset-self.ensures.other c.args.warps.now)
    (ReadyFrom-enter Ending c.args.warps.now c.args.self.now.nest c.enter.new.self _ c.enter.ensures.frames
    (c.enter.ensures.asked Ending c.args.warps.now) c.requires.timed.endings)
    c.onset-self.ensures.value
