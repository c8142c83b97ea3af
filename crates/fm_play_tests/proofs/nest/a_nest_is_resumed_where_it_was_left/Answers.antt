use Rattle.std.proofs.Common.{◌≡◌, ◌∷◌, [], refl, arith}
use Rattle.fm_warp.specs.declared.side.Side.TheVariants.{Onset}
use Rattle.fm_nest.specs.declared.frame.Frame.{Frame}
use Rattle.fm_nest.specs.Nesting.{frames_of}
use Rattle.fm_nest.proofs.NestingLemmas.{FitsLevels-two}
use Rattle.fm_nest.proofs.ReadinessLemmas.{ReadyFrom-asked, ReadyFrom-fresh}
use Rattle.fm_play_tests.proofs.nest.a_nest_is_resumed_where_it_was_left.Goals as goal

abbrev outer : Frame
outer = record { warp = 0; origin = 5 }

abbrev inner : Frame
inner = record { warp = 0; origin = 7 }

pub onset-requires-clause-fits : goal.onset-requires-clause-fits
onset-requires-clause-fits g c =
    let frames : frames_of c.enter-2.new.self ≡ outer ∷ inner ∷ [] =
    rw (c.enter-2.ensures.frames, c.enter.ensures.frames, c.new-nest.ensures.frames) refl in
    let same = c.resume-resumed.ensures.same (frames_of c.enter-2.new.self) (rw frames refl) c.origins.ensures.value in
    rw (same, frames)
    (FitsLevels-two Onset (c.in_ok-half.half ∷ []) outer inner 8 (omega arith) (omega arith) (omega arith)
    c.in_ok-half.ensures.in_range (omega (arith, c.in_ok-half.ensures.one)))

pub onset-requires-clause-ready : goal.onset-requires-clause-ready
onset-requires-clause-ready g c =
    ReadyFrom-fresh Onset _ c.resume-resumed.result 8 (c.resume-resumed.ensures.asked Onset _)

pub onset-requires-2-clause-fits : goal.onset-requires-2-clause-fits
onset-requires-2-clause-fits g c =
    rw (c.enter-2.ensures.frames, c.enter.ensures.frames, c.new-nest.ensures.frames)
    (FitsLevels-two Onset (c.in_ok-half.half ∷ []) outer inner 8 (omega arith) (omega arith) (omega arith)
    c.in_ok-half.ensures.in_range (omega (arith, c.in_ok-half.ensures.one)))

pub onset-requires-2-clause-ready : goal.onset-requires-2-clause-ready
onset-requires-2-clause-ready g c =
    ReadyFrom-asked Onset _ _ (outer ∷ inner ∷ []) (0 ∷ 0 ∷ []) 8
    (rw (c.enter-2.ensures.frames, c.enter.ensures.frames, c.new-nest.ensures.frames) refl)
    (c.enter-2.ensures.asked Onset _ _ (c.enter.ensures.asked Onset _ _ (c.new-nest.ensures.asked Onset _)))
    (omega arith, (omega arith, tt))
