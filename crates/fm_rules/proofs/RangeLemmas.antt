-- Lists of the text without a fault.
use Rattle.std.proofs.Common.{◌≡◌, ℕ, zero, suc, ◌<◌, ◌≤◌, List, [], ◌∷◌, ◌++◌, length, get_or, refl, arith}
use Rattle.fm_lex.specs.declared.spot.Spot.{Spot}
use Rattle.fm_meaning.specs.Fault.{NumberedFault}
use Rattle.fm_meaning.specs.Ranges.{each_faults}

-- of two lists of faults that are empty together, the first
pub none_first : {A : Type 0} (xs ys : List A) → xs ++ ys ≡ [] → xs ≡ []
none_first [] ys none = refl
none_first (x ∷ xs) ys none = cc

-- and the second
pub none_second : {A : Type 0} (xs ys : List A) → xs ++ ys ≡ [] → ys ≡ []
none_second [] ys none = none
none_second (x ∷ xs) ys none = cc

-- no entry is one too many
pub few_entries : {A : Type 0} (faults : A → List NumberedFault) (spot : A → Spot) (most : ℕ) (xs : List A)
    → each_faults faults spot most xs ≡ [] → length xs ≤ most
few_entries faults spot most [] none = omega arith
few_entries faults spot zero (x ∷ xs) none = cc
few_entries faults spot (suc most) (x ∷ xs) none =
    omega (arith, few_entries faults spot most xs (none_second (faults x) (each_faults faults spot most xs) none))

-- the entry at an index has no fault
pub entry_without : {A : Type 0} (faults : A → List NumberedFault) (spot : A → Spot) (most : ℕ) (xs : List A)
    → each_faults faults spot most xs ≡ [] → (i : ℕ) (d : A) → i < length xs → faults (get_or xs i d) ≡ []
entry_without faults spot most [] none i d within = absurd (omega arith)
entry_without faults spot zero (x ∷ xs) none i d within = cc
entry_without faults spot (suc most) (x ∷ xs) none zero d within =
    none_first (faults x) (each_faults faults spot most xs) none
entry_without faults spot (suc most) (x ∷ xs) none (suc i) d within =
    entry_without faults spot most xs (none_second (faults x) (each_faults faults spot most xs) none) i d (omega arith)
