-- Sums and products up to the greatest number: what is cut off before counts for nothing.
use Rattle.std.proofs.Common.{◌≡◌, ℕ, zero, suc, ◌+◌, ◌*◌, ◌≤◌, min, refl, sym, ap, ◌∙◌, arith, ⊎_elim}
use Rattle.std.proofs.Math.Nat.{mul_comm}
use Rattle.std.proofs.lemmas.Bool.{cases_lt}
use Rattle.fm_effort.specs.Effort.{largest, counted}

-- up to the greatest number a number stays
pub counted_below : (n : ℕ) → n ≤ largest → counted n ≡ n
unfolding counted
counted_below n low = omega arith

-- and none is above it
pub counted_most : (n : ℕ) → counted n ≤ largest
unfolding counted
counted_most n = omega arith

-- above it is the greatest
counted_above : (n : ℕ) → largest ≤ n → counted n ≡ largest
unfolding counted
counted_above n high = omega arith

-- a sum with a number that was cut off
pub counted_more : (n b : ℕ) → counted (n + counted b) ≡ counted (n + b)
unfolding counted
counted_more n b = omega arith

-- a sum of three
pub counted_twice : (n a b : ℕ) → counted (counted (n + a) + b) ≡ counted (n + (a + b))
unfolding counted
counted_twice n a b = omega arith

-- a product with a number above the greatest is above it
big_product : (n b : ℕ) → largest ≤ b → counted (suc n * b) ≡ largest
unfolding counted
big_product n b high = omega arith

-- a product with 0
zero_product : (n : ℕ) → counted (0 * n) ≡ 0
unfolding counted
zero_product n = omega arith

-- a product with a number that was cut off: so often a number above the greatest is above it, or 0
counted_product : (n b : ℕ) → counted (n * counted b) ≡ counted (n * b)
counted_product zero b = zero_product (counted b) ∙ sym (zero_product b)
counted_product (suc n) b =
    ⊎_elim (λ low. rw (counted_below b (omega arith)) refl)
    (λ high. rw (counted_above b high) (big_product n largest (omega arith) ∙ sym (big_product n b high)))
    (cases_lt b largest)

-- a product of a number and one that was cut off, in the other order
pub counted_times : (n b : ℕ) → counted (counted b * n) ≡ counted (n * b)
counted_times n b = ap counted (mul_comm (counted b) n) ∙ counted_product n b

-- a product of two that were cut off
pub counted_both : (a b : ℕ) → counted (counted a * counted b) ≡ counted (b * a)
counted_both a b = counted_product (counted a) b ∙ counted_times b a

-- a product of two that were cut off, added
counted_sum : (n a b : ℕ) → counted (n + counted (counted a * counted b)) ≡ counted (n + b * a)
counted_sum n a b = ap (λ (x : ℕ). counted (n + x)) (counted_both a b) ∙ counted_more n (b * a)

-- ---- as the code computes them

-- the rounds of one loop more
pub times_rounds : (n b rounds result : ℕ) → rounds ≡ counted b → result ≡ min (rounds * n) largest
    → result ≡ counted (n * b)
unfolding counted
times_rounds n b rounds result is made = made ∙ ap (λ (x : ℕ). min (x * n) largest) is ∙ counted_times n b

-- a load with an operation in its rounds
pub added_rounds : (load w b once rounds result : ℕ) → once ≡ counted w → rounds ≡ counted b
    → result ≡ min (load + min (once * rounds) largest) largest → result ≡ counted (load + b * w)
unfolding counted
added_rounds load w b once rounds result first second made =
    made ∙ ap (λ (x : ℕ). min (load + min (x * rounds) largest) largest) first
    ∙ ap (λ (x : ℕ). min (load + min (counted w * x) largest) largest) second
    ∙ counted_sum load w b

-- a load with nothing more
pub added_none : (load result : ℕ) → result ≡ min (load + 0) largest → result ≡ counted (load + 0)
unfolding counted
added_none load result made = made
