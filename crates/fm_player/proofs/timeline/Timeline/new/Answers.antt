use Rattle.fm_warp.specs.declared.side.Side.TheVariants.{Onset, Ending}
use Rattle.fm_nest.proofs.ReadinessLemmas.{ReadyFrom-fresh}
use Rattle.fm_player.proofs.TimeLemmas.{IsTimed-asked}
use Rattle.fm_player.proofs.timeline.Timeline.new.Goals as goal

pub onset-tick-requires-clause-ready : goal.onset-tick-requires-clause-ready
onset-tick-requires-clause-ready c =
    ReadyFrom-fresh Onset c.args.warps.now c.resume-nest.result c.args.place.now.position
    (c.resume-nest.ensures.asked Onset c.args.warps.now)

pub returns-clause-timed : goal.returns-clause-timed
returns-clause-timed c =
    IsTimed-asked c.args.warps.now c.resume-nest.result _ c.onset-tick.ensures.frames
    (rw c.resume-nest.ensures.frames c.requires.fits)
    c.onset-tick.ensures.ready (c.onset-tick.ensures.other c.args.warps.now)
    (ReadyFrom-fresh Ending c.args.warps.now c.resume-nest.result c.args.place.now.position
    (c.resume-nest.ensures.asked Ending c.args.warps.now))
    c.onset-tick.ensures.value
