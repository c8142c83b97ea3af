-- Lists of faults that are empty.
use Rattle.std.proofs.Common.{◌≡◌, ℕ, Bool, true, false, List, [], ◌∷◌, ◌++◌, refl}
use Rattle.fm_lex.specs.declared.spot.Spot.{Spot}
use Rattle.fm_meaning.specs.Fault.{fault_if}

-- of two lists that are empty together, the first
pub none_first : {A : Type 0} (xs ys : List A) → xs ++ ys ≡ [] → xs ≡ []
none_first [] ys none = refl
none_first (x ∷ xs) ys none = cc

-- and the second
pub none_second : {A : Type 0} (xs ys : List A) → xs ++ ys ≡ [] → ys ≡ []
none_second [] ys none = none
none_second (x ∷ xs) ys none = cc

-- a test without a fault fails
pub no_fault : (b : Bool) (spot : Spot) (number : ℕ) → fault_if b spot number ≡ [] → b ≡ false
no_fault true spot number none = cc
no_fault false spot number none = refl
