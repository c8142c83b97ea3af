-- One element of a list changes, and lists of one value.
use Rattle.std.proofs.Common.{◌≡◌, ◌≢◌, ℕ, zero, suc, ◌<◌, ◌≤◌, List, [], ◌∷◌, length, get_or, set, refl, sym, ap, ◌∙◌, subst, arith, get_or-set_same, get_or-set_other, replicate, take}
use mathlib.Core.Logic.{dite}
use native.Mathlib.Decide.{ℕ_discrete}

module _ {A : Type 0} where
  -- what holds of the new element, and of each other one, holds of each after
  pub or_set : (P : A → Type 0) (l : List A) (i j : ℕ) (a d : A) → i < length l → (j ≡ i → P a) → (j ≢ i → P (get_or l j d))
      → P (get_or (set l i a) j d)
  or_set P l i j a d lt here other = dite (ℕ_discrete j i)
      (λ e. subst P (sym (ap (λ (k : ℕ). get_or (set l i a) k d) e ∙ get_or-set_same l i a d lt)) (here e))
      (λ n. subst P (sym (get_or-set_other l i j a d n)) (other n))

-- every element of a list of one value is that value
pub same_all : {A : Type 0} (n i : ℕ) (a : A) → get_or (replicate n a) i a ≡ a
same_all zero i a = refl
same_all (suc n) zero a = refl
same_all (suc n) (suc i) a = same_all n i a

-- the first of the first are the first
pub take_take : {A : Type 0} (t m : ℕ) (xs : List A) → t ≤ m → take t (take m xs) ≡ take t xs
take_take zero m xs le = none (take m xs) ∙ sym (none xs)
  where
    none : {A : Type 0} (xs : List A) → take 0 xs ≡ []
    none [] = refl
    none (x ∷ xs) = refl
take_take (suc t) zero xs le = absurd (omega arith)
take_take (suc t) (suc m) [] le = refl
take_take (suc t) (suc m) (x ∷ xs) le = ap (λ ys. x ∷ ys) (take_take t m xs (omega arith))

-- the first 0 elements are none
pub take_none : {A : Type 0} (xs : List A) → take 0 xs ≡ []
take_none [] = refl
take_none (x ∷ xs) = refl
