-- The limit of a record in numbers.
use Rattle.std.proofs.Common.{◌≡◌, refl}
use Rattle.fm_record.specs.declared.limits.TheConstants.{MAX_RECORD}

most_bytes_of_a_record : MAX_RECORD ≡ 67108864
most_bytes_of_a_record = refl
