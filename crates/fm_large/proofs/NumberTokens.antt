-- A number that is written in decimal is one token of a text.
use Rattle.std.proofs.Common.{◌≡◌, ◌∙◌, ◌^◌, ◌<◌, ◌≤◌, ℕ, true, false, List, [], ◌∷◌, ◌++◌, length, drop, refl, ap, ap₂, arith}
use Rattle.std.specs.Prelude.{nat_lt, take_while}
use Rattle.std.specs.List.{prefix_len}
use Rattle.std.specs.Char.{digit_value}
use Rattle.std.specs.Fmt as written
use Rattle.std.specs.Str.Parse.{AllDigits}
use Rattle.std.proofs.lemmas.Bool.{le-leb}
use Rattle.std.proofs.lemmas.Bool.Decides.{nat_tests}
use Rattle.std.proofs.lemmas.Fmt.{decimal_is_IsNumeral, digits_value-decimal, length-decimal-le}
use Rattle.std.proofs.lemmas.List.{drop_at}
use Rattle.std.proofs.lemmas.List.Sums.{take_while-cons}
use Rattle.std.proofs.lemmas.Str.Parse.{IsNumeralModel, digit_from_value, numerals_by_weight, tells_digits}
use Rattle.fm_lex.specs.declared.spot.Spot.{Spot}
use Rattle.fm_lex.specs.declared.kind.Kind.TheVariants.{Number}
use Rattle.fm_lex.specs.Bytes.{decimal, in_word, is_digit, is_letter, past}
use Rattle.fm_lex.specs.Tokens.{Lexed, between, inside, lexed_at, most_digits, number_from, token, walk}
use Rattle.fm_lex.specs.Room.{BeginsToken}
use Rattle.fm_lex.proofs.Steps.{digit_in_word, inside-ends, inside-more, moved, moved-zero, walk-then_more, word_in_line}

-- ---- digits

-- each byte is a digit
abbrev pub Digits : List ℕ → Type 0
Digits [] = Unit {0}
Digits (x ∷ xs) = (is_digit x ≡ true) × Digits xs

byte_is_digit : (x : ℕ) → digit_value x < 10 → is_digit x ≡ true
byte_is_digit x low =
    let within : (48 ≤ x) × (x ≤ 57) = digit_from_value x low in
    rw (le-leb 48 x within.0, le-leb x 57 within.1) refl

are_digits : (xs : List ℕ) → AllDigits 10 xs → Digits xs
are_digits [] all = tt
are_digits (x ∷ xs) all = (byte_is_digit x all.0, are_digits xs all.1)

by_weight : IsNumeralModel (AllDigits 10) decimal
by_weight = numerals_by_weight (AllDigits 10) tells_digits decimal (record { empty = refl; more = λ c cs within. refl })

-- the digits of a number
pub record Spells (n : ℕ) (xs : List ℕ) : Type 0 where
  pub digits : Digits xs
  pub some : 1 ≤ length xs
  pub few : length xs ≤ 9
  pub value : decimal xs ≡ n

-- a number of at most nine digits is spelt by them
pub spelt : (n : ℕ) → n < 10 ^ 9 → Spells n (written.decimal n)
spelt n small =
    let is = decimal_is_IsNumeral n (omega arith) in
    record {
      digits = are_digits (written.decimal n) is.0.1;
      some = is.0.0;
      few = length-decimal-le 9 n (omega arith) small (omega arith);
      value = digits_value-decimal by_weight n (omega arith);
    }

-- ---- the token

-- a byte that ends a number
abbrev pub Ends : ℕ → Type 0
Ends y = in_word y ≡ false

no_digit : (y : ℕ) → Ends y → is_digit y ≡ false
no_digit y ends = grind (arith, nat_tests)

taken_digits : (xs : List ℕ) (y : ℕ) (ys : List ℕ) → Digits xs → Ends y → take_while is_digit (xs ++ y ∷ ys) ≡ xs
taken_digits [] y ys all ends = rw (take_while-cons is_digit y ys, no_digit y ends) refl
taken_digits (x ∷ xs) y ys all ends = rw (take_while-cons is_digit x (xs ++ y ∷ ys), all.0)
    (ap (λ (zs : List ℕ). x ∷ zs) (taken_digits xs y ys all.1 ends))

run_of_digits : (xs : List ℕ) (y : ℕ) (ys : List ℕ) → Digits xs → Ends y → prefix_len is_digit (xs ++ y ∷ ys) ≡ length xs
run_of_digits [] y ys all ends = rw (no_digit y ends) refl
run_of_digits (x ∷ xs) y ys all ends = rw (all.0, run_of_digits xs y ys all.1 ends) (omega arith)

past_digits : (xs : List ℕ) (y : ℕ) (ys : List ℕ) → Digits xs → Ends y → past is_digit (xs ++ y ∷ ys) ≡ y ∷ ys
past_digits xs y ys all ends = ap (λ n. drop n (xs ++ y ∷ ys)) (run_of_digits xs y ys all ends) ∙ drop_at xs (y ∷ ys) (length xs) refl

few_digits : (n : ℕ) → n ≤ 9 → nat_lt most_digits n ≡ false
few_digits n few = grind (arith, nat_tests)

-- what is left of a number is passed over
inside_digits : (s : Spot) (xs : List ℕ) (y : ℕ) (ys : List ℕ) → Digits xs → Ends y → walk inside s (xs ++ y ∷ ys)
    ≡ walk between (moved s (length xs)) (y ∷ ys)
inside_digits s [] y ys all ends = rw (moved-zero s) (inside-ends s y ys ends)
inside_digits s (x ∷ xs) y ys all ends =
    inside-more s x (xs ++ y ∷ ys) (digit_in_word x all.0) ∙ inside_digits (moved s 1) xs y ys all.1 ends
    ∙ ap (λ n. walk between (record { line = s.line; column = n }) (y ∷ ys)) (omega arith)

begins_number : (x : ℕ) (xs : List ℕ) → is_digit x ≡ true → BeginsToken (x ∷ xs)
begins_number x xs is = (grind (arith, nat_tests), grind (arith, nat_tests))

no_letter : (x : ℕ) → is_digit x ≡ true → is_letter x ≡ false
no_letter x is = grind (arith, nat_tests)

read_digit : (s : Spot) (x : ℕ) (zs : List ℕ) → is_digit x ≡ true → lexed_at s (x ∷ zs)
    ≡ number_from (take_while is_digit (x ∷ zs)) (past is_digit (x ∷ zs)) s
read_digit s x zs is = rw (no_letter x is, is) refl

number_read : (s : Spot) (n : ℕ) (x : ℕ) (xs : List ℕ) (y : ℕ) (ys : List ℕ) → Spells n (x ∷ xs) → Ends y
    → lexed_at s ((x ∷ xs) ++ y ∷ ys) ≡ token (Number n) (x ∷ xs) s
number_read s n x xs y ys spells ends =
    read_digit s x (xs ++ y ∷ ys) spells.digits.0
    ∙ ap₂ (λ (ds later : List ℕ). number_from ds later s) (taken_digits (x ∷ xs) y ys spells.digits ends)
    (past_digits (x ∷ xs) y ys spells.digits ends)
    ∙ rw (few_digits (length (x ∷ xs)) spells.few, ends) (ap (λ k. token (Number k) (x ∷ xs) s) spells.value)

-- a number, and what follows it
pub number_token : (s : Spot) (n : ℕ) (xs : List ℕ) (y : ℕ) (ys : List ℕ) → Spells n xs → Ends y
    → walk between s (xs ++ y ∷ ys) ≡ token (Number n) xs s ∷ walk between (moved s (length xs)) (y ∷ ys)
number_token s n [] y ys spells ends = absurd (omega (arith, spells.some))
number_token s n (x ∷ xs) y ys spells ends =
    walk-then_more s x (xs ++ y ∷ ys) (begins_number x (xs ++ y ∷ ys) spells.digits.0)
    ∙ rw (number_read s n x xs y ys spells ends, digit_in_word x spells.digits.0, word_in_line x s (digit_in_word x spells.digits.0))
    (ap (λ (more : List Lexed). token (Number n) (x ∷ xs) s ∷ more) (inside_digits (moved s 1) xs y ys spells.digits.1 ends
    ∙ ap (λ k. walk between (record { line = s.line; column = k }) (y ∷ ys)) (omega arith)))
