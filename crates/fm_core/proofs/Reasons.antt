-- The first reason of a table: it is none exactly where no test holds.
use Rattle.std.proofs.Common.{◌≡◌, ℕ, zero, suc, List, [], ◌∷◌, Bool, true, false, None, refl, ◌∙◌}
use Rattle.fm_core.specs.Steps.{first}
use Rattle.fm_core.specs.declared.reason.Reason.{Reason}

-- no test of the table holds
abbrev pub AllFalse : List (Bool × Reason) → Type 0
AllFalse [] = Unit {0}
AllFalse (x ∷ xs) = (x.0 ≡ false) × AllFalse xs

-- where no test holds there is no reason
pub no_reason : (xs : List (Bool × Reason)) → AllFalse xs → first xs ≡ None
no_reason [] k = refl
no_reason (x ∷ xs) k = not_now x.0 x.1 xs k.0 ∙ no_reason xs k.1
  where
    not_now : (b : Bool) (r : Reason) (ys : List (Bool × Reason)) → b ≡ false → first ((b, r) ∷ ys) ≡ first ys
    not_now true r ys e = absurd (cc)
    not_now false r ys e = refl

first_false : (b : Bool) (r : Reason) (xs : List (Bool × Reason)) → first ((b, r) ∷ xs) ≡ None → (b ≡ false) × (first xs ≡ None)
first_false true r xs e = absurd (cc)
first_false false r xs e = (refl, e)

-- the test of this number in a table; none behind its end
abbrev pub test : List (Bool × Reason) → ℕ → Bool
test [] k = false
test (x ∷ xs) zero = x.0
test (x ∷ xs) (suc k) = test xs k

-- where there is no reason, no test holds
pub none_holds : (xs : List (Bool × Reason)) → first xs ≡ None → (k : ℕ) → test xs k ≡ false
none_holds [] e k = refl
none_holds (x ∷ xs) e zero = (first_false x.0 x.1 xs e).0
none_holds (x ∷ xs) e (suc k) = none_holds xs (first_false x.0 x.1 xs e).1 k
