use Rattle.std.proofs.Common.{◌≡◌, ◌∷◌, [], List, refl, arith}
use Rattle.fm_tick.specs.Quotient.{flat_of}
use Rattle.fm_tick.specs.declared.stretch.Stretch.{Stretch}
use Rattle.fm_warp.specs.declared.part.Part.{Part}
use Rattle.fm_warp.specs.declared.part.Part.TheVariants.{Flat}
use Rattle.fm_warp.specs.declared.side.Side.TheVariants.{Onset, Ending}
use Rattle.fm_warp.specs.Deformation.{placed}
use Rattle.fm_nest.specs.declared.frame.Frame.{Frame}
use Rattle.fm_nest.specs.Nesting.{frames_of}
use Rattle.fm_nest.proofs.NestingLemmas.{FitsLevels-two}
use Rattle.fm_nest.proofs.ReadinessLemmas.{ReadyFrom-asked}
use Rattle.fm_play_tests.proofs.nest.a_level_goes_on_from_what_it_was_asked_for.Goals as goal

abbrev level : Frame
level = record { warp = 0; origin = 0 }

-- at half of the speed 100 becomes 50
halved : (parts : List Part) (stretch : Stretch) → parts ≡ Flat 1920 stretch ∷ [] → stretch.thousandths ≡ 500 →
    placed Ending 0 parts 100 ≡ 50
unfolding flat_of
halved parts stretch is half = rw (is, half) refl

pub ending-requires-clause-fits : goal.ending-requires-clause-fits
ending-requires-clause-fits g c =
    rw (c.enter-2.ensures.frames, c.enter.ensures.frames, c.new-nest.ensures.frames)
    (FitsLevels-two Ending (c.in_ok-half.half ∷ []) level level 100 (omega arith) (omega arith) (omega arith)
    c.in_ok-half.ensures.in_range (omega (arith, c.in_ok-half.ensures.one)))

pub ending-requires-clause-ready : goal.ending-requires-clause-ready
ending-requires-clause-ready g c =
    ReadyFrom-asked Ending _ _ (level ∷ level ∷ []) (0 ∷ 0 ∷ []) 100
    (rw (c.enter-2.ensures.frames, c.enter.ensures.frames, c.new-nest.ensures.frames) refl)
    (c.enter-2.ensures.asked Ending _ _ (c.enter.ensures.asked Ending _ _ (c.new-nest.ensures.asked Ending _)))
    (omega arith, (omega arith, tt))

pub leave-requires-clause-fits : goal.leave-requires-clause-fits
leave-requires-clause-fits g c =
    rw (c.ending.ensures.frames, c.enter-2.ensures.frames, c.enter.ensures.frames, c.new-nest.ensures.frames)
    (FitsLevels-two Onset (c.in_ok-half.half ∷ []) level level 50 (omega arith) (omega arith) (omega arith)
    c.in_ok-half.ensures.in_range (omega (arith, c.in_ok-half.ensures.one)))

pub ending-requires-2-clause-ready : goal.ending-requires-2-clause-ready
ending-requires-2-clause-ready g c =
    let was : frames_of c.ending.new.self ≡ level ∷ level ∷ [] =
    rw (c.ending.ensures.frames, c.enter-2.ensures.frames, c.enter.ensures.frames, c.new-nest.ensures.frames) refl in
    let is = c.in_ok-half.ensures.is in
    let fifty = halved c.in_ok-half.half is.0 is.1 is.2 in
    ReadyFrom-asked Ending _ _ (level ∷ []) (placed Ending 0 c.in_ok-half.half 100 ∷ []) 100
    (c.leave.ensures.frames (level ∷ []) level was)
    (c.leave.ensures.asked Ending _ _ 100 (rw was at c.ending.ensures.ready))
    (omega (arith, fifty), tt)
