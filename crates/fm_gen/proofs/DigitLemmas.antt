-- How many digits a number has.
use Rattle.std.proofs.Common.{◌≡◌, ℕ, ◌+◌, ◌/◌, ◌%◌, ◌^◌, ◌<◌, ◌≤◌, [], ◌∷◌, length}
use Rattle.std.proofs.Common.{ap, ◌∙◌, length-append, arith}
use Rattle.std.specs.Fmt.{decimal}
use Rattle.std.proofs.lemmas.Fmt.{decimal_step, decimal_digit, length-decimal-le}

-- at most twenty, of a number of 64 bits
pub decimal_short : (n : ℕ) → n < 2 ^ 64 → length (decimal n) ≤ 20
decimal_short n fits = length-decimal-le 20 n (omega arith) (omega arith) fits

-- one, of a number below ten
pub length-decimal_digit : (n : ℕ) → n < 10 → length (decimal n) ≡ 1
length-decimal_digit n small = ap length (decimal_digit n small)

-- one more than its tenth has, of any other
pub length-decimal_step : (n : ℕ) → 10 ≤ n → n < 2 ^ 64
    → length (decimal n) ≡ length (decimal (n / 10)) + 1
length-decimal_step n more fits =
    ap length (decimal_step n more fits)
    ∙ length-append (decimal (n / 10)) ((48 + n % 10) ∷ [])

-- the digits of a number, one by one
pub ruleset digit_steps = (decimal_digit, length-decimal_digit, length-decimal_step)
