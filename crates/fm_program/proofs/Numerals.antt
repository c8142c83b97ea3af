-- The limits of programs in numbers.
use Rattle.std.proofs.Common.{◌≡◌, ◌^◌, refl}
use Rattle.fm_program.specs.declared.op.TheConstants.{MAX_FRAMES, MAX_INDEX, MAX_LENGTH, MAX_LOOPS, MAX_PERCENT, MAX_PITCHES}
use Rattle.fm_program.specs.declared.plan.TheConstants.{MAX_STEPS}

most_frames : MAX_FRAMES ≡ 16
most_frames = refl

most_loops : MAX_LOOPS ≡ 16
most_loops = refl

most_pitches : MAX_PITCHES ≡ 16
most_pitches = refl

longest_duration : MAX_LENGTH ≡ 1000000
longest_duration = refl

most_percent : MAX_PERCENT ≡ 400
most_percent = refl

most_rounds : MAX_INDEX ≡ 1000000
most_rounds = refl

most_steps : MAX_STEPS ≡ 2 ^ 24
most_steps = refl
