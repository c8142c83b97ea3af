-- The limits of a performance in numbers.
use Rattle.std.proofs.Common.{◌≡◌, refl}
use Rattle.fm_core.specs.declared.limits.TheConstants.{MAX_LEAD, MAX_SEATS}

most_seats : MAX_SEATS ≡ 17
most_seats = refl

most_lead : MAX_LEAD ≡ 1000000
most_lead = refl
