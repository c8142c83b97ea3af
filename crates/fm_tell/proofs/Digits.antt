-- The decimal digits of a number, one digit at a time.
use Rattle.std.proofs.Common.{◌≡◌, ℕ, ◌+◌, ◌/◌, ◌%◌, ◌^◌, ◌<◌, ◌≤◌, [], ◌∷◌, ◌++◌, length, ap, ◌∙◌, arith, length-append}
use Rattle.std.specs.Prelude.{decimal}
use Rattle.std.proofs.lemmas.Fmt.{decimal_digit, decimal_step, length-decimal-le}

-- a number of one digit
pub one_digit : (n : ℕ) → n < 10 → decimal n ≡ (48 + n) ∷ []
one_digit = decimal_digit

pub length-one_digit : (n : ℕ) → n < 10 → length (decimal n) ≡ 1
length-one_digit n lt = ap length (decimal_digit n lt)

-- a number of more digits
pub more_digits : (n : ℕ) → 10 ≤ n → n < 2 ^ 32 → decimal n ≡ decimal (n / 10) ++ (48 + n % 10) ∷ []
more_digits n le lt = decimal_step n le (omega arith)

pub length-more_digits : (n : ℕ) → 10 ≤ n → n < 2 ^ 32 → length (decimal n) ≡ length (decimal (n / 10)) + 1
length-more_digits n le lt = ap length (more_digits n le lt) ∙ length-append (decimal (n / 10)) _

-- a number of 32 bits has at most ten digits
pub length-decimal_32 : (n : ℕ) → n < 2 ^ 32 → length (decimal n) ≤ 10
length-decimal_32 n lt = length-decimal-le 10 n (omega arith) (omega arith) (omega arith)

-- one of 8 bits at most three
pub length-decimal_8 : (n : ℕ) → n < 2 ^ 8 → length (decimal n) ≤ 3
length-decimal_8 n lt = length-decimal-le 3 n (omega arith) (omega arith) (omega arith)
