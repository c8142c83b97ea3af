-- Worked values of the two quotients, each by computation.
use Rattle.std.proofs.Common.{◌≡◌, refl}
use Rattle.fm_tick.specs.Quotient.{flat_of, sloped_of}

-- ten ticks at a third of the speed, and the three that come of them once more
flat_at_a_third : flat_of 10 333 ≡ 3
unfolding flat_of
flat_at_a_third = refl

flat_twice : flat_of (flat_of 10 333) 333 ≡ 0
unfolding flat_of
flat_twice = refl

-- half of a slope, and all of it
slope_half : sloped_of 480 960 1000 2000 ≡ 600
unfolding sloped_of
slope_half = refl

slope_whole : sloped_of 960 960 1000 2000 ≡ 1440
unfolding sloped_of
slope_whole = refl

-- a slope of one tick from 1000 to 2000 takes one and a half, of which one whole tick is left
slope_of_one : sloped_of 1 1 1000 2000 ≡ 1
unfolding sloped_of
slope_of_one = refl

-- ticks that stay as many
slope_of_none : sloped_of 4000 4000 1000 1000 ≡ 4000
unfolding sloped_of
slope_of_none = refl
