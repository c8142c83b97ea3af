-- A list that is mapped, one entry at a time.
use Rattle.std.proofs.Common.{◌≡◌, ℕ, zero, suc, ◌+◌, ◌<◌, ◌≤◌, List, [], ◌∷◌, ◌++◌, map, take, length, get_or, ap, sym, ◌∙◌, arith}
use Rattle.std.specs.Prelude.{slice_index_or}
use Rattle.std.proofs.lemmas.List.{map-append, take_more, take_all}

-- one entry more is taken
pub take_one_more : {A : Type 0} (xs : List A) (i : ℕ) (x : A) → i < length xs → x ≡ get_or xs i x
    → take (i + 1) xs ≡ take i xs ++ x ∷ []
take_one_more xs i x within is = take_more xs i x within ∙ ap (λ y. take i xs ++ y ∷ []) (sym is)

-- the same of a list seen in another way
pub map_take_more : {A B : Type 0} (f : A → B) (xs : List A) (i : ℕ) (x : A) → i < length xs → x ≡ get_or xs i x
    → map f (take (i + 1) xs) ≡ map f (take i xs) ++ f x ∷ []
map_take_more f xs i x within is = ap (map f) (take_one_more xs i x within is) ∙ map-append f (take i xs) (x ∷ [])

-- the same of the entry at an index
pub map_take_at : {A B : Type 0} (f : A → B) (xs : List A) (i : ℕ) (d : A) → i < length xs
    → map f (take (i + 1) xs) ≡ map f (take i xs) ++ f (get_or xs i d) ∷ []
map_take_at f xs i d within = ap (map f) (take_more xs i d within) ∙ map-append f (take i xs) (get_or xs i d ∷ [])

-- one entry more is done
pub mapped_more : {A B : Type 0} (f : A → B) (xs : List A) (i : ℕ) (d : A) (entries grown : List B) → i < length xs
    → entries ≡ map f (take i xs) → grown ≡ entries ++ f (get_or xs i d) ∷ [] → grown ≡ map f (take (i + 1) xs)
mapped_more f xs i d entries grown within so_far pushed =
    pushed ∙ ap (λ l. l ++ f (get_or xs i d) ∷ []) so_far ∙ sym (map_take_at f xs i d within)

-- no entry is left
pub mapped_end : {A B : Type 0} (f : A → B) (xs : List A) (i : ℕ) (entries : List B) → length xs ≤ i
    → entries ≡ map f (take i xs) → entries ≡ map f xs
mapped_end f xs i entries past so_far = so_far ∙ ap (map f) (take_all i xs past)

-- an element of a mapped list
pub map_at : {A B : Type 0} (f : A → B) (xs : List A) (n : ℕ) (x : A) (d : B) → n < length xs → x ≡ slice_index_or xs n x
    → slice_index_or (map f xs) n d ≡ f x
map_at f [] n x d within is = absurd (omega (arith, within))
map_at f (y ∷ ys) zero x d within is = ap f (sym is)
map_at f (y ∷ ys) (suc n) x d within is = map_at f ys n x d (omega (arith, within)) is
