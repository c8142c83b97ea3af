-- The limits of a deformation in numbers.
use Rattle.std.proofs.Common.{◌≡◌, refl}
use Rattle.fm_warp.specs.declared.part.TheConstants.{MAX_PART_TICKS}
use Rattle.fm_warp.specs.declared.warp.TheConstants.{MAX_PARTS}

most_parts : MAX_PARTS ≡ 256
most_parts = refl

longest_part : MAX_PART_TICKS ≡ 1000000
longest_part = refl
