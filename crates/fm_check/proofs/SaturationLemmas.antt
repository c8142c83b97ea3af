-- Sums, products and greatest numbers up to the ceiling: what is cut off before counts for nothing.
use Rattle.std.proofs.Common.{◌≡◌, ℕ, zero, suc, ◌+◌, ◌*◌, ◌≤◌, max, refl, sym, ◌∙◌, arith, ⊎_elim}
use Rattle.std.proofs.lemmas.Bool.{cases_lt}
use Rattle.fm_check.specs.declared.totals.sums.TheConstants.{CEILING}
use Rattle.fm_check.specs.Saturation.{capped}

-- below the ceiling a number stays
pub capped_below : (n : ℕ) → n ≤ CEILING → capped n ≡ n
unfolding capped
capped_below n low = omega arith

-- above it is the ceiling
pub capped_above : (n : ℕ) → CEILING ≤ n → capped n ≡ CEILING
unfolding capped
capped_above n high = omega arith

-- twice is once
pub capped_twice : (n : ℕ) → capped (capped n) ≡ capped n
unfolding capped
capped_twice n = omega arith

-- nothing stays nothing
pub capped_nothing : capped 0 ≡ 0
unfolding capped
capped_nothing = refl

-- a sum
pub capped_sum : (a b : ℕ) → capped (capped a + capped b) ≡ capped (a + b)
unfolding capped
capped_sum a b = omega arith

-- a sum with a number that is not cut off
pub capped_more : (n b : ℕ) → capped (n + capped b) ≡ capped (n + b)
unfolding capped
capped_more n b = omega arith

-- the same in the other order
pub capped_before : (b n : ℕ) → capped (capped b + n) ≡ capped (b + n)
unfolding capped
capped_before b n = omega arith

-- the greater one
pub capped_max : (a b : ℕ) → max (capped a) (capped b) ≡ capped (max a b)
unfolding capped
capped_max a b = omega arith

-- a product with a number above the ceiling is above it
big_product : (n b : ℕ) → CEILING ≤ b → capped (suc n * b) ≡ CEILING
unfolding capped
big_product n b high = omega arith

-- a product with 0
zero_product : (n : ℕ) → capped (0 * n) ≡ 0
unfolding capped
zero_product n = omega arith

-- a product: so often a number above the ceiling is above it, or 0
pub capped_product : (n b : ℕ) → capped (n * capped b) ≡ capped (n * b)
capped_product zero b = zero_product (capped b) ∙ sym (zero_product b)
capped_product (suc n) b =
    ⊎_elim (λ low. rw (capped_below b (omega arith)) refl)
    (λ high. rw (capped_above b high) (big_product n CEILING (omega arith) ∙ sym (big_product n b high)))
    (cases_lt b CEILING)

-- a sum of two, and a number more
pub capped_three : (n a b : ℕ) → capped (n + capped (capped a + capped b)) ≡ capped (n + a + b)
unfolding capped
capped_three n a b = omega arith

-- for `grind`: totals of totals up to the ceiling
pub ruleset saturation = (
  capped_nothing,
  capped_sum,
  capped_more,
  capped_before,
  capped_max,
  capped_product,
  capped_three,
)
