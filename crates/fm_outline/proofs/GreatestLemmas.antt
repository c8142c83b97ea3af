-- The greatest number of a list with one more at its end.
use Rattle.std.proofs.Common.{◌≡◌, ℕ, max, List, [], ◌∷◌, ◌++◌, ◌+◌, ◌<◌, ◌≤◌, take, length, get_or, ap, sym, ◌∙◌, arith}
use Rattle.std.proofs.lemmas.List.{take_more, take_all}
use Rattle.fm_line.specs.Line.{greatest}

-- a number more
greatest_more : (xs : List ℕ) (x : ℕ) → greatest (xs ++ x ∷ []) ≡ max (greatest xs) x
greatest_more [] x = omega arith
greatest_more (y ∷ xs) x = omega (arith, greatest_more xs x)

-- one entry more is looked at
pub greatest_step : (xs : List ℕ) (i d : ℕ) {most grown : ℕ} → i < length xs → most ≡ greatest (take i xs)
    → grown ≡ max most (get_or xs i d) → grown ≡ greatest (take (i + 1) xs)
greatest_step xs i d within so_far here =
    here ∙ ap (λ m. max m (get_or xs i d)) so_far
    ∙ sym (ap greatest (take_more xs i d within) ∙ greatest_more (take i xs) (get_or xs i d))

-- no entry is left
pub greatest_end : (xs : List ℕ) (i : ℕ) {most : ℕ} → length xs ≤ i → most ≡ greatest (take i xs) → most ≡ greatest xs
greatest_end xs i past so_far = so_far ∙ ap greatest (take_all i xs past)
