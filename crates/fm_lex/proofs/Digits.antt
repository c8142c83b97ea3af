-- Decimal numbers.
use Rattle.std.proofs.Common.{◌≡◌, ℕ, suc, ◌+◌, ◌-◌, ◌*◌, ◌<◌, ◌≤◌, ◌^◌, true, List, [], ◌∷◌, ◌++◌, length, take, slice_index_or, arith, length-append, length-take, add-one}
use Rattle.std.specs.Prelude.{All, Bool}
use Rattle.std.specs.List.{prefix_len}
use Rattle.std.proofs.Math.Nat.{pow-le-pow_right, pow-succ', mul-le-mul_right}
use Rattle.std.proofs.Math.Seq.{take-suc}
use Rattle.std.proofs.lemmas.Bool.Decides.{nat_tests}
use Rattle.std.proofs.lemmas.List.{get_or-take}
use Rattle.std.proofs.lemmas.List.Elements.{All-take}
use Rattle.std.proofs.lemmas.List.Folds.{length-prefix_len}
use Rattle.std.proofs.lemmas.List.Sums.{prefix_len_passes}
use Rattle.fm_lex.specs.Bytes.{is_digit, decimal}

-- a digit more at the end
pub decimal-append : (xs : List ℕ) (x : ℕ) → decimal (xs ++ x ∷ []) ≡ 10 * decimal xs + (x - 48)
decimal-append [] x = omega arith
decimal-append (y ∷ ys) x =
    let here : length (ys ++ x ∷ []) ≡ suc (length ys) = omega (arith, length-append ys (x ∷ [])) in
    let spread : (y - 48) * (10 * 10 ^ length ys) ≡ 10 * ((y - 48) * 10 ^ length ys) = grind arith in
    rw (here, pow-succ', decimal-append ys x, spread) (omega arith)

-- a digit is 48 to 57
pub digit_within : (x : ℕ) → is_digit x ≡ true → (48 ≤ x) × (x ≤ 57)
digit_within x is = grind (arith, nat_tests)

-- a number is below the power of ten of as many digits
pub decimal_below : (xs : List ℕ) → All (λ x. is_digit x ≡ true) xs → decimal xs < 10 ^ length xs
decimal_below [] digits = omega arith
decimal_below (x ∷ xs) digits =
    let below : decimal xs < 10 ^ length xs = decimal_below xs (λ k d within. digits (suc k) d (omega arith)) in
    let digit : x - 48 ≤ 9 = let within = digit_within x (digits 0 0 (omega arith)) in omega arith in
    let product : (x - 48) * 10 ^ length xs ≤ 9 * 10 ^ length xs = mul-le-mul_right (10 ^ length xs) digit in
    rw pow-succ' (omega arith)

-- a front as long as its passing bytes passes
pub digits_pass : (p : ℕ → Bool) (xs : List ℕ) → All (λ x. p x ≡ true) (take (prefix_len p xs) xs)
digits_pass p xs k d within =
    let inside : k < prefix_len p xs = omega (arith, length-prefix_len p xs) in
    rw get_or-take (prefix_len_passes p xs k d inside)

-- the loop over the digits, one digit on
pub decimal-take : (xs : List ℕ) (i : ℕ) → i < length xs
    → decimal (take (i + 1) xs) ≡ 10 * decimal (take i xs) + (slice_index_or xs i 0 - 48)
decimal-take xs i within = rw (add-one, take-suc xs i 0 within) (decimal-append (take i xs) (slice_index_or xs i 0))

-- and its sums fit
pub decimal_fits : (xs : List ℕ) (i : ℕ) → All (λ x. is_digit x ≡ true) xs → length xs ≤ 9 → i < length xs
    → 10 * decimal (take i xs) + (slice_index_or xs i 0 - 48) < 1000000000
decimal_fits xs i digits few within =
    let below : decimal (take (i + 1) xs) < 10 ^ length (take (i + 1) xs) =
    decimal_below (take (i + 1) xs) (All-take (λ x. is_digit x ≡ true) (i + 1) xs digits) in
    let few_taken : length (take (i + 1) xs) ≤ 9 = omega (arith, length-take (i + 1) xs) in
    let power : 10 ^ length (take (i + 1) xs) ≤ 10 ^ 9 = pow-le-pow_right (omega arith) few_taken in
    omega (arith, decimal-take xs i within)

pub ruleset digit_steps = (decimal-take, decimal_fits, digit_within)
