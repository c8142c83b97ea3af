-- The room for a line in numbers.
use Rattle.std.proofs.Common.{◌≡◌, refl}
use Rattle.fm_position.specs.declared.position.TheConstants.{MAX_LINE}

most_bytes_of_a_line : MAX_LINE ≡ 262
most_bytes_of_a_line = refl
