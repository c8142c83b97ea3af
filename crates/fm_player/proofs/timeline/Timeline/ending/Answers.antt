use Rattle.std.proofs.Common.{◌≤◌, ◌∙◌, ℕ, List, [], ◌∷◌, All, zero, suc, arith, sym}
use Rattle.fm_warp.specs.declared.part.Part.{Part}
use Rattle.fm_warp.specs.declared.side.Side.TheVariants.{Onset, Ending}
use Rattle.fm_nest.specs.declared.frame.Frame.{Frame}
use Rattle.fm_nest.specs.Nesting.{FitsLevels, Names, frames_of}
use Rattle.fm_nest.proofs.FarLemmas.{far-in-time}
use Rattle.fm_nest.proofs.NestingLemmas.{FitsLevels-earlier, FitsLevels-ending}
use Rattle.fm_nest.proofs.ReadinessLemmas.{ReadyFrom-later}
use Rattle.fm_player.proofs.TimeLemmas.{AreNamed, AreNamed-fits}
use Rattle.fm_player.proofs.timeline.Timeline.ending.Goals as goal

-- a note that ends no later than a position which is in time ends in time
ends-in-time : (warps : List (List Part)) (fs : List Frame) (end x : ℕ) → end ≤ x → FitsLevels Onset warps fs x
    → FitsLevels Ending warps fs end
ends-in-time warps fs end x to fits = FitsLevels-ending warps fs end (FitsLevels-earlier Onset warps fs end x to fits)

all_named : (warps : List (List Part)) (fs : List Frame) → AreNamed warps fs → All (Names warps) fs
all_named warps [] named k d below = absurd (omega arith)
all_named warps (f ∷ fs) named zero d below = named.0
all_named warps (f ∷ fs) named (suc k) d below = all_named warps fs named.1 k d (omega arith)

pub ending-requires-clause-fits : goal.ending-requires-clause-fits
ending-requires-clause-fits c =
    ends-in-time c.args.warps.now _ c.args.end c.args.next (omega arith) c.requires.fits.fits

pub ending-requires-clause-ready : goal.ending-requires-clause-ready
ending-requires-clause-ready c =
    ReadyFrom-later Ending c.args.warps.now c.args.self.now.nest c.args.self.now.position c.args.end c.requires.«from»
    c.requires.timed.endings

pub far-requires-clause-named : goal.far-requires-clause-named
far-requires-clause-named c =
    all_named c.args.warps.now (frames_of c.args.self.now.nest)
    (AreNamed-fits c.args.warps.now (frames_of c.args.self.now.nest) _ c.requires.fits.fits)

-- where an end is in time, the nest's cursors give what the definition says of all ends
pub returns-then-end-next-clause-value : goal.returns-then-end-next-clause-value
returns-then-end-next-clause-value c =
    c.ending.ensures.value
    ∙ sym (far-in-time c.args.warps.now (frames_of c.args.self.now.nest) c.args.end
    (ends-in-time c.args.warps.now _ c.args.end c.args.next (omega arith) c.requires.fits.fits))

pub returns-then-end-next-clause-endings : goal.returns-then-end-next-clause-endings
returns-then-end-next-clause-endings c =
    ReadyFrom-later Ending c.args.warps.now c.ending.new.self c.args.end c.args.next (omega arith) c.ending.ensures.ready

pub returns-else-end-next-clause-endings : goal.returns-else-end-next-clause-endings
returns-else-end-next-clause-endings c =
    ReadyFrom-later Ending c.args.warps.now c.args.self.now.nest c.args.self.now.position c.args.next c.requires.later
    c.requires.timed.endings
