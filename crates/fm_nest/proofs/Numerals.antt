-- The limit of nested deformations in numbers.
use Rattle.std.proofs.Common.{◌≡◌, refl}
use Rattle.fm_nest.specs.declared.nest.TheConstants.{MAX_LEVELS}

most_levels : MAX_LEVELS ≡ 8
most_levels = refl
