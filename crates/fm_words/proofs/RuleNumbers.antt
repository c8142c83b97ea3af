-- A number of the rules is what clap's test and Rust's reading of a `u64` take for one.
use Rattle.std.proofs.Common.{◌≡◌, ◌∙◌, ◌+◌, ◌-◌, ◌*◌, ◌^◌, ◌<◌, ◌≤◌, ◌==◌, ◌&&◌, ℕ, suc, Bool, true, false, [], ◌∷◌, length, Some, None, option_and_then, refl, sym, ap, arith, if◌then◌else◌}
use Rattle.std.specs.Prelude.{nat_le, nat_lt}
use Rattle.std.specs.List.{list_all}
use Rattle.std.specs.Char.{digit_value}
use Rattle.std.specs.Str.Parse.{digits_value, digits_value_after, without_leading_plus}
use Rattle.std.proofs.lemmas.Bool.{le-leb, leb-true, lt-ltb, ltb-true}
use Rattle.std.proofs.lemmas.Bool.Decides.{nat_tests}
use Rattle.std.proofs.lemmas.Str.{digit_value_digit}
use Rattle.std.proofs.lemmas.Str.Parse.{digit_from_value}
use Rattle.clap.specs.ValueTests.{is_numeral}
use Rattle.fm_words.specs.Rules.{Word, digits_behind, digits_in, is_digit, number_of_text, number_within}
use Rattle.fm_words.specs.Settings.{number_in}
use Rattle.fm_words.proofs.WalkViews.{both_parts}

-- ---- digits

-- a digit of the rules has a value below 10, which is its distance from `0`
record SameDigit (byte : ℕ) : Type 0 where
  test : nat_lt (digit_value byte) 10 ≡ is_digit byte
  value : is_digit byte ≡ true → digit_value byte ≡ byte - 48

digit_bounds : (byte : ℕ) → is_digit byte ≡ true → (48 ≤ byte) × (byte ≤ 57)
digit_bounds byte is =
    let both = both_parts (nat_le 48 byte) (nat_le byte 57) is in
    (leb-true 48 byte both.0, leb-true byte 57 both.1)

digit_worth : (byte : ℕ) → is_digit byte ≡ true → digit_value byte + 48 ≡ byte
digit_worth byte is = digit_value_digit byte (digit_bounds byte is)

worth_digit : (byte : ℕ) → nat_lt (digit_value byte) 10 ≡ true → is_digit byte ≡ true
worth_digit byte is =
    let within : (48 ≤ byte) × (byte ≤ 57) = digit_from_value byte (ltb-true (digit_value byte) 10 is) in
    rw (le-leb 48 byte within.0, le-leb byte 57 within.1) refl

same_digit : (byte : ℕ) → SameDigit byte
same_digit byte = record {
  test = go (nat_lt (digit_value byte) 10) (is_digit byte) refl refl;
  value = λ is. let worth : digit_value byte + 48 ≡ byte = digit_worth byte is in omega arith;
}
  where
    go : (a b : Bool) → nat_lt (digit_value byte) 10 ≡ a → is_digit byte ≡ b → nat_lt (digit_value byte) 10 ≡ is_digit byte
    go true b one other = one ∙ sym (worth_digit byte one)
    go false false one other = one ∙ sym other
    go false true one other =
        let worth : digit_value byte + 48 ≡ byte = digit_worth byte other in
        let below : byte ≤ 57 = (digit_bounds byte other).1 in
        lt-ltb (digit_value byte) 10 (omega arith) ∙ sym other

digits_same : (n : ℕ) (text : Word) → digits_behind n text ≡ (if list_all (λ d. nat_lt (digit_value d) 10) text then Some
    (digits_value_after 10 n text) else None)
digits_same n [] = refl
digits_same n (byte ∷ bytes) = go (is_digit byte) refl (digits_same (n * 10 + (byte - 48)) bytes)
  where
    go : (b : Bool) → is_digit byte ≡ b → digits_behind (n * 10 + (byte - 48)) bytes
        ≡ (if list_all (λ d. nat_lt (digit_value d) 10) bytes then Some (digits_value_after 10 (n * 10 + (byte - 48)) bytes) else None)
        → (if is_digit byte then digits_behind (n * 10 + (byte - 48)) bytes else None)
        ≡ (if nat_lt (digit_value byte) 10 && list_all (λ d. nat_lt (digit_value d) 10) bytes then Some
        (digits_value_after 10 (n * 10 + digit_value byte) bytes) else None)
    go true is rest = rw ((same_digit byte).test, is, (same_digit byte).value is) rest
    go false is rest = rw ((same_digit byte).test, is) refl

numeral_same : (text : Word) → digits_in text ≡ (if is_numeral text then Some (digits_value 10 text) else None)
numeral_same [] = refl
numeral_same (byte ∷ bytes) = digits_same 0 (byte ∷ bytes) ∙ ap (λ b. if b && list_all (λ d. nat_lt (digit_value d) 10) (byte
    ∷ bytes) then Some (digits_value 10 (byte ∷ bytes)) else None) (some_length (length bytes))
  where
    some_length : (n : ℕ) → true ≡ nat_lt 0 (suc n)
    some_length n = grind (arith, nat_tests)

text_same : (text : Word) → number_of_text text ≡ digits_in (without_leading_plus text)
text_same [] = refl
text_same (byte ∷ bytes) = go (byte == 43) refl
  where
    go : (b : Bool) → (byte == 43) ≡ b → (if byte == 43 then digits_in bytes else digits_in (byte ∷ bytes))
        ≡ digits_in (without_leading_plus (byte ∷ bytes))
    go true is = rw is refl
    go false is = rw is refl

-- ---- ranges

within : (low high n : ℕ) (b : Bool) → high < 2 ^ 64
    → (if b && (nat_lt n (2 ^ 64) && (nat_le low n && nat_le n high)) then Some n else None)
    ≡ option_and_then (λ m. if nat_le low m && nat_le m high then Some m else None) (if b then Some n else None)
within low high n false fits = refl
within low high n true fits = go (nat_lt n (2 ^ 64)) (nat_le low n) (nat_le n high) refl refl refl
  where
    go : (a b c : Bool) → nat_lt n (2 ^ 64) ≡ a → nat_le low n ≡ b → nat_le n high ≡ c
        → (if nat_lt n (2 ^ 64) && (nat_le low n && nat_le n high) then Some n else None)
        ≡ (if nat_le low n && nat_le n high then Some n else None)
    go true b c one two three = rw (one, two, three) refl
    go false false c one two three = rw (one, two) refl
    go false true false one two three = rw (one, two, three) refl
    go false true true one two three =
        let below : n ≤ high = leb-true n high three in
        let never : n < 2 ^ 64 = omega arith in cc (lt-ltb n (2 ^ 64) never)

-- a number in a range by the rules is one by the contract
pub number_same : (low high : ℕ) (text : Word) → high < 2 ^ 64 → number_in low high text ≡ number_within low high text
number_same low high text fits =
    within low high (digits_value 10 (without_leading_plus text)) (is_numeral (without_leading_plus text)) fits
    ∙ ap (option_and_then (λ m. if nat_le low m && nat_le m high then Some m else None))
    (sym (text_same text ∙ numeral_same (without_leading_plus text)))
