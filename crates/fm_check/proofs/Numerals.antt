-- Limits in numbers: those of this crate, and those of texts and values, which stand in crates below it.
use Rattle.std.proofs.Common.{◌≡◌, ◌+◌, ◌^◌, refl}
use Rattle.fm_check.specs.declared.totals.excess.TheConstants.{MAX_OPERATIONS, MAX_STEPS}
use Rattle.fm_check.specs.declared.totals.sums.TheConstants.{CEILING}

ceiling : CEILING ≡ 2 ^ 40 + 1
ceiling = refl

most_operations : MAX_OPERATIONS ≡ 262144
most_operations = refl

most_steps : MAX_STEPS ≡ 2 ^ 24
most_steps = refl
