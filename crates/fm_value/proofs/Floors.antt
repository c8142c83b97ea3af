-- The floor of a quotient, and what it leaves.
use Rattle.std.proofs.Common.{◌≡◌, ℕ, zero, suc, ◌+◌, ◌*◌, ◌/◌, ◌<◌, refl, ◌∙◌, w64, SFits, arith}
use Rattle.std.specs.Prelude.{ℤ, pos, negsuc, ◌+ℤ◌, ◌-ℤ◌, ◌*ℤ◌, ◌≤ℤ◌, ◌<ℤ◌, neg_ℤ}
use Rattle.std.proofs.lemmas.Grind.{common_steps}
use Rattle.std.proofs.lemmas.Int.{ints}
use Rattle.std.proofs.lemmas.Nat.{div-add-mod', mod_below}
use Rattle.std.proofs.Math.Nat.{mul_comm, suc-mul}
use Rattle.fm_value.specs.Operation.{IsWithin, floor_by, floor_div, floor_rem}

-- a remainder is at least 0 and below the divisor
pub record Between (r : ℤ) (m : ℕ) : Type 0 where
  pub low : pos 0 ≤ℤ r
  pub high : r <ℤ pos m

-- what the floor by a positive divisor leaves
pub left_by : (x : ℤ) (m : ℕ) → Between (x -ℤ (pos (suc m) *ℤ floor_by x (suc m))) (suc m)
left_by (pos a) m =
    let whole = div-add-mod' a (suc m) in
    let less = mod_below a (suc m) (omega arith) in
    let turned = mul_comm (suc m) (a / suc m) in
    record { low = omega (arith, ints); high = omega (arith, ints) }
left_by (negsuc a) m =
    let whole = div-add-mod' a (suc m) in
    let less = mod_below a (suc m) (omega arith) in
    let turned : suc m * suc (a / suc m) ≡ (a / suc m) * suc m + suc m =
    mul_comm (suc m) (suc (a / suc m)) ∙ suc-mul (a / suc m) (suc m) in
    record { low = omega (arith, ints); high = omega (arith, ints) }

-- what a positive divisor leaves
pub left_by_positive : (x : ℤ) (m : ℕ) → 0 < m → Between (floor_rem x (pos m)) m
left_by_positive x zero some = absurd (omega arith)
left_by_positive x (suc m) some = left_by x m

-- a product with a negative number is turned round
pub negsuc-product : (k : ℕ) (q : ℤ) → negsuc k *ℤ q ≡ neg_ℤ (pos (suc k) *ℤ q)
negsuc-product k (pos b) = refl
negsuc-product k (negsuc b) = omega (arith, ints)

-- what a negative divisor leaves is what its opposite leaves of the opposite number, turned round
pub turned_round : (x : ℤ) (k : ℕ)
    → floor_rem x (negsuc k) ≡ neg_ℤ (neg_ℤ x -ℤ (pos (suc k) *ℤ floor_by (neg_ℤ x) (suc k)))
turned_round x k =
    let product = negsuc-product k (floor_by (neg_ℤ x) (suc k)) in
    omega (arith, ints)

-- a remainder is at most 0 and above the divisor
pub record BetweenBelow (r : ℤ) (k : ℕ) : Type 0 where
  pub low : negsuc k <ℤ r
  pub high : r ≤ℤ pos 0

-- what a negative divisor leaves
pub left_by_negative : (x : ℤ) (k : ℕ) → BetweenBelow (floor_rem x (negsuc k)) k
left_by_negative x k =
    let same = turned_round x k in
    let left = left_by (neg_ℤ x) k in
    let low = left.low in
    let high = left.high in
    record { low = omega (arith, ints); high = omega (arith, ints) }

-- the divisor times the floor, and what it leaves, are the number
pub whole_is : (x y : ℤ) → (y ≡ pos 0 → ⊥) → x ≡ (y *ℤ floor_div x y) +ℤ floor_rem x y
whole_is x (pos zero) some = absurd (some refl)
whole_is x (pos (suc m)) some = omega (arith, ints)
whole_is x (negsuc k) some = omega (arith, ints)

-- what the floor leaves is the number without the divisor times it
pub left_is : (x y : ℤ) → (y ≡ pos 0 → ⊥) → x -ℤ (y *ℤ floor_div x y) ≡ floor_rem x y
left_is x (pos zero) some = absurd (some refl)
left_is x (pos (suc m)) some = refl
left_is x (negsuc k) some = refl

-- of two values, what the floor leaves is a value too, and the divisor times it within twice as much
pub record Small (x y : ℤ) : Type 0 where
  pub product : SFits w64 (y *ℤ floor_div x y)
  pub left : SFits w64 (x -ℤ (y *ℤ floor_div x y))

pub small : (x y : ℤ) → IsWithin x → IsWithin y → (y ≡ pos 0 → ⊥) → Small x y
small x (pos zero) left right some = absurd (some refl)
small x (pos (suc m)) left right some =
    let between = left_by x m in
    let low = between.low in
    let high = between.high in
    record { product = grind (arith, ints, common_steps); left = grind (arith, ints, common_steps) }
small x (negsuc k) left right some =
    let between = left_by_negative x k in
    let low = between.low in
    let high = between.high in
    record { product = grind (arith, ints, common_steps); left = grind (arith, ints, common_steps) }
