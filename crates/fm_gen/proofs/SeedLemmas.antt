-- The number of a score can be read from its text.
use Rattle.std.proofs.Common.{◌≡◌, ℕ, ◌<◌, ◌≤◌, List, [], ◌∷◌, ◌++◌, drop}
use Rattle.std.proofs.Common.{refl, ap, sym, ◌∙◌, append_assoc, arith}
use Rattle.std.specs.Prelude.{codes}
use Rattle.std.specs.Char.{digit_value}
use Rattle.std.specs.Fmt.{decimal}
use Rattle.std.specs.Str.Parse.{AllDigits}
use Rattle.std.proofs.lemmas.Fmt.{decimal_is_IsNumeral, decimal_injective}
use Rattle.fm_gen.specs.LargeScore.{stretch_of, notes_of, lines_text, first_shape_line}
use Rattle.fm_gen.specs.LargeScore.{branches, large_score}
use Rattle.fm_gen.specs.declared.score.TheConstants.{MAX_NUMBER}

-- a semicolon is no digit
no_digit : (x : ℕ) → x ≡ 59 → digit_value x < 10 → ⊥
no_digit x semicolon digit =
    let high : 36 < 10 = rw semicolon at digit in
    omega arith

-- two texts that begin with digits and a semicolon begin with the same digits
same_digits : (xs ys before behind : List ℕ) → AllDigits 10 xs → AllDigits 10 ys
    → xs ++ 59 ∷ before ≡ ys ++ 59 ∷ behind → xs ≡ ys
same_digits [] [] before behind left right same = refl
same_digits [] (y ∷ ys) before behind left right same =
    let semicolon : y ≡ 59 = cc in
    absurd (no_digit y semicolon right.0)
same_digits (x ∷ xs) [] before behind left right same =
    let semicolon : x ≡ 59 = cc in
    absurd (no_digit x semicolon left.0)
same_digits (x ∷ xs) (y ∷ ys) before behind left right same =
    let first : x ≡ y = cc in
    let others : xs ++ 59 ∷ before ≡ ys ++ 59 ∷ behind = cc in
    rw (first, same_digits xs ys before behind left.1 right.1 others) refl

-- a line, a line of three pieces, and more lines
two_lines : (a s d c : List ℕ) (more : List (List ℕ))
    → lines_text (a ∷ (s ++ d ++ c) ∷ more) ≡ (a ++ 10 ∷ s) ++ (d ++ (c ++ 10 ∷ lines_text more))
two_lines a s d c more = simp append_assoc

-- the lines behind the seed
abbrev behind_seed : ℕ → List (List ℕ)
behind_seed number =
    first_shape_line (stretch_of number)
    ∷ codes "shape b = pause 1/8, flat 4/1 by 1500;"
    ∷ codes "par {"
    ∷ (branches (notes_of number) ++ codes "}" ∷ [])

-- where the number stands
seed_spelt : (number : ℕ) → large_score number
    ≡ (codes "formula 1;" ++ 10 ∷ codes "seed ")
    ++ (decimal number ++ 59 ∷ 10 ∷ lines_text (behind_seed number))
unfolding large_score
seed_spelt number =
    two_lines (codes "formula 1;") (codes "seed ") (decimal number) (codes ";") (behind_seed number)

-- one text comes of one number
pub number_of_score : (m n : ℕ) → m ≤ MAX_NUMBER → n ≤ MAX_NUMBER
    → large_score m ≡ large_score n → m ≡ n
number_of_score m n low high same =
    let seeds : decimal m ++ 59 ∷ 10 ∷ lines_text (behind_seed m)
    ≡ decimal n ++ 59 ∷ 10 ∷ lines_text (behind_seed n) =
    ap (drop 16) (sym (seed_spelt m) ∙ same ∙ seed_spelt n) in
    let left = decimal_is_IsNumeral m (omega arith) in
    let right = decimal_is_IsNumeral n (omega arith) in
    decimal_injective m n (omega arith) (omega arith)
    (same_digits (decimal m) (decimal n) _ _ left.0.1 right.0.1 seeds)
