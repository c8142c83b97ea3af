-- A number in its range, as `u64` reads it.
use Rattle.std.proofs.Common.{◌≡◌, ℕ, ◌≤◌, ◌<◌, ◌^◌, List, Bool, true, false, Some, None, refl, sym, ap, arith}
use Rattle.std.specs.Str.Parse.{IsNumeral, digits_value, without_leading_plus}
use Rattle.clap.specs.Values.{IsUnsignedIn}
use Rattle.clap.specs.ValueTests.{is_unsigned_in}
use Rattle.clap.specs.declared.builder.value_parser.ValueParser.TheVariants as parser
use Rattle.clap.proofs.ValueTestLemmas.{Accepts-accepts, accepts-Accepts}
use Rattle.fm_words.specs.Settings.{number_in}

-- the text spells a number below 2^64
abbrev pub IsSpelt : List ℕ → Type 0
IsSpelt text = IsNumeral 10 (without_leading_plus text) × (digits_value 10 (without_leading_plus text) < 2 ^ 64)

-- what is spelt and lies in the range is the number
pub number_in-within : (low high n : ℕ) (text : List ℕ) → IsSpelt text × (n ≡ digits_value 10 (without_leading_plus text))
    → low ≤ n → n ≤ high → number_in low high text ≡ Some n
number_in-within low high n text spelt above below =
    let value : n ≡ digits_value 10 (without_leading_plus text) = spelt.1 in
    let from_low : low ≤ digits_value 10 (without_leading_plus text) = omega arith in
    let to_high : digits_value 10 (without_leading_plus text) ≤ high = omega arith in
    let passes : is_unsigned_in low high text ≡ true =
    Accepts-accepts false (parser.Unsigned low high) text (spelt.0.0, spelt.0.1, from_low, to_high) in
    rw passes (ap (λ k. Some k) (sym value))

-- what is no number of the range is none
pub number_in-none : (low high : ℕ) (text : List ℕ) → (IsUnsignedIn low high text → ⊥) → number_in low high text ≡ None
number_in-none low high text never = by_test (is_unsigned_in low high text) refl
  where
    by_test : (b : Bool) → is_unsigned_in low high text ≡ b → number_in low high text ≡ None
    by_test true is = absurd (never (accepts-Accepts false (parser.Unsigned low high) text is))
    by_test false is = rw is refl

-- what spells no number is none
pub number_in-unspelt : (low high : ℕ) (text : List ℕ) → (IsSpelt text → ⊥) → number_in low high text ≡ None
number_in-unspelt low high text unspelt = number_in-none low high text (λ u. unspelt (u.0, u.1))

-- what lies outside the range is none
pub number_in-outside : (low high n : ℕ) (text : List ℕ) → IsSpelt text × (n ≡ digits_value 10 (without_leading_plus text))
    → (low ≤ n → n ≤ high → ⊥) → number_in low high text ≡ None
number_in-outside low high n text spelt outside =
    let value : n ≡ digits_value 10 (without_leading_plus text) = spelt.1 in
    number_in-none low high text (λ u. let from_low = u.2 in let to_high = u.3 in outside (omega arith) (omega arith))
