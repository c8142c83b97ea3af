-- The limit of a file in numbers.
use Rattle.std.proofs.Common.{◌≡◌, refl}
use Rattle.fm_read.specs.declared.limits.TheConstants.{MAX_FILE}

most_bytes_of_a_file : MAX_FILE ≡ 33554432
most_bytes_of_a_file = refl
