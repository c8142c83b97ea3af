-- The least number at which a test holds.
use Rattle.std.proofs.Common.{◌≡◌, ◌⊎◌, ℕ, zero, suc, ◌<◌, Bool, true, false, Option, Some, None, refl, sym, ap, ◌∙◌, subst, inl, inr, ⊎_elim, arith}
use Rattle.std.specs.Prelude.{if◌then◌else◌}
use mathlib.Core.Logic.{dite}
use native.Mathlib.Decide.{ℕ_discrete, dec_lt}
use Rattle.fm_core.proofs.Booleans.{clash}
use Rattle.fm_core.specs.Numbers.{is_some, or_found, find_below, any_below}

-- the least number below n at which the test holds
pub record Found (n : ℕ) (f : ℕ → Bool) (p : ℕ) : Type 0 where
  pub below : p < n
  pub holds : f p ≡ true
  pub least : (q : ℕ) → q < p → f q ≡ false

at_or_below : (q n : ℕ) → q < suc n → (q < n) ⊎ (q ≡ n)
at_or_below q n lt = dite (ℕ_discrete q n) (λ e. inr e) (λ d. inl (omega arith))

-- where none is found the test fails at every number below
pub none_found : (n : ℕ) (f : ℕ → Bool) → find_below n f ≡ None → (q : ℕ) → q < n → f q ≡ false
none_found zero f e q lt = absurd (omega arith)
none_found (suc n) f e q lt = go (find_below n f) (f n) refl refl e (none_found n f)
  where
    go : (o : Option ℕ) (b : Bool) → find_below n f ≡ o → f n ≡ b → or_found o (if b then Some n else None) ≡ None
        → (find_below n f ≡ None → (r : ℕ) → r < n → f r ≡ false) → f q ≡ false
    go (Some k) b u v w before = absurd (cc)
    go None true u v w before = absurd (cc)
    go None false u v w before = ⊎_elim (λ (l : q < n). before u q l) (λ (s : q ≡ n). subst (λ (r : ℕ). f r ≡ false) (sym s) v)
        (at_or_below q n lt)

-- what is found is the least number at which the test holds
pub some_found : (n : ℕ) (f : ℕ → Bool) (p : ℕ) → find_below n f ≡ Some p → Found n f p
some_found zero f p e = absurd (cc)
some_found (suc n) f p e = go (find_below n f) (f n) refl refl e (some_found n f p)
  where
    go : (o : Option ℕ) (b : Bool) → find_below n f ≡ o → f n ≡ b → or_found o (if b then Some n else None) ≡ Some p
        → (find_below n f ≡ Some p → Found n f p) → Found (suc n) f p
    go (Some k) b u v w before = let r = before (u ∙ w) in let lt = r.below in
        record { below = omega arith; holds = r.holds; least = r.least }
    go None true u v w before = let e : n ≡ p = cc in
        record { below = omega arith; holds = subst (λ (r : ℕ). f r ≡ true) e v; least = λ q lt. none_found n f u q (omega arith) }
    go None false u v w before = absurd (cc)

-- the least number at which the test holds is found
pub found_is : (n : ℕ) (f : ℕ → Bool) (p : ℕ) → Found n f p → find_below n f ≡ Some p
found_is n f p r = go (find_below n f) refl
  where
    go : (o : Option ℕ) → find_below n f ≡ o → find_below n f ≡ Some p
    go None e = let not_at = none_found n f e p r.below in let holds_at = r.holds in absurd (cc)
    go (Some q) e = let s = some_found n f q e in let holds_at = r.holds in let also = s.holds in
        dite (ℕ_discrete q p) (λ same. e ∙ ap Some same) (λ apart. dite (dec_lt q p)
        (λ lt. let not_at = r.least q lt in absurd (cc)) (λ nlt. let not_at = s.least p (omega arith) in absurd (cc)))

-- where the test holds somewhere below, it holds somewhere
pub any_at : (n : ℕ) (f : ℕ → Bool) (p : ℕ) → p < n → f p ≡ true → any_below n f ≡ true
any_at n f p lt holds_at = go (find_below n f) refl
  where
    go : (o : Option ℕ) → find_below n f ≡ o → is_some o ≡ true
    go None e = let not_at = none_found n f e p lt in absurd (cc)
    go (Some q) e = refl

-- where the test holds nowhere it fails at every number below
pub none_any : (n : ℕ) (f : ℕ → Bool) → any_below n f ≡ false → (q : ℕ) → q < n → f q ≡ false
none_any n f e = none_found n f (go (find_below n f) e)
  where
    go : (o : Option ℕ) → is_some o ≡ false → o ≡ None
    go None e = refl
    go (Some q) e = absurd (cc)

-- where the test holds somewhere there is a least number at which it does
pub any_found : (n : ℕ) (f : ℕ → Bool) → any_below n f ≡ true → (p : ℕ) × Found n f p
any_found n f e = go (find_below n f) refl e
  where
    go : (o : Option ℕ) → find_below n f ≡ o → is_some o ≡ true → (p : ℕ) × Found n f p
    go None u v = absurd (cc)
    go (Some q) u v = (q, some_found n f q u)

-- where the test fails at every number below, it holds nowhere
pub not_any : (n : ℕ) (f : ℕ → Bool) → ((q : ℕ) → q < n → f q ≡ false) → any_below n f ≡ false
not_any n f not_at = go (any_below n f) refl
  where
    go : (b : Bool) → any_below n f ≡ b → any_below n f ≡ false
    go true e = let r = any_found n f e in let holds_at = r.1.holds in let none = not_at r.0 r.1.below in absurd (cc)
    go false e = e

-- where the test fails at every number below, none is found
pub none_is : (n : ℕ) (f : ℕ → Bool) → ((q : ℕ) → q < n → f q ≡ false) → find_below n f ≡ None
none_is n f none = go (find_below n f) refl
  where
    go : (o : Option ℕ) → find_below n f ≡ o → find_below n f ≡ None
    go None e = e
    go (Some q) e = let r = some_found n f q e in absurd (clash (f q) r.holds (none q r.below))

-- the least number at which the test holds, from a walk upwards
pub first_is : (n : ℕ) (f : ℕ → Bool) (p : ℕ) → p < n → f p ≡ true → ((q : ℕ) → q < p → f q ≡ false) → find_below n f ≡ Some p
first_is n f p lt here before_it = found_is n f p (record { below = lt; holds = here; least = before_it })

-- one more at which it does not hold
pub one_more : (f : ℕ → Bool) (p : ℕ) → f p ≡ false → ((q : ℕ) → q < p → f q ≡ false) → (q : ℕ) → q < suc p → f q ≡ false
one_more f p here before_it q lt = ⊎_elim (λ (l : q < p). before_it q l) (λ (e : q ≡ p). subst (λ (r : ℕ). f r ≡ false) (sym e) here)
    (at_or_below q p lt)
