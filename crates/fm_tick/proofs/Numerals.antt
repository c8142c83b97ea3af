-- The limits of ticks and stretches in numbers.
use Rattle.std.proofs.Common.{◌≡◌, ◌^◌, refl}
use Rattle.fm_tick.specs.declared.stretch.TheConstants.{MAX_STRETCH}
use Rattle.fm_tick.specs.declared.tick.TheConstants.{MAX_TICK}

last_tick : MAX_TICK ≡ 2 ^ 40
last_tick = refl

most_stretch : MAX_STRETCH ≡ 1000000
most_stretch = refl
