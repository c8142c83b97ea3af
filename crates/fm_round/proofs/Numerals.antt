-- The limits of rounds in numbers.
use Rattle.std.proofs.Common.{◌≡◌, refl}
use Rattle.fm_round.specs.declared.limits.TheConstants.{MAX_WORKERS}

most_workers : MAX_WORKERS ≡ 16
most_workers = refl
