-- Totals against their limits: a total up to the ceiling passes a limit exactly where the total itself does.
use Rattle.std.proofs.Common.{◌≡◌, ℕ, ◌<◌, [], arith}
use Rattle.std.proofs.lemmas.Bool.Decides.{nat_tests}
use Rattle.std.specs.Prelude.{nat_lt}
use Rattle.fm_lex.specs.declared.spot.Spot.{Spot}
use Rattle.fm_meaning.specs.Rules.{VersionRules}
use Rattle.fm_meaning.specs.Bounds.{Totals, limit_faults}
use Rattle.fm_check.specs.declared.totals.sums.TheConstants.{CEILING}
use Rattle.fm_check.specs.Saturation.{capped}
use Rattle.fm_check.specs.Reached.{AreWithin}

-- a total up to the ceiling passes a limit where the total does
pub capped_lt : (m n : ℕ) → m < CEILING → nat_lt m (capped n) ≡ nat_lt m n
unfolding capped
capped_lt m n low = grind (arith, nat_tests)

-- no total passes its limit where none is found
pub are_within : (rules : VersionRules) (spot : Spot) (a : Totals) → limit_faults rules spot a ≡ []
    → AreWithin rules.most_processes a
are_within rules spot a none = record {
  processes = grind (arith, nat_tests);
  operations = grind (arith, nat_tests);
  length = grind (arith, nat_tests);
  events = grind (arith, nat_tests);
  steps = grind (arith, nat_tests);
}
