-- What callers of `flat` and `sloped` need of the two quotients: bounds, order, and that the bounds name one number.
use Rattle.std.proofs.Common.{◌≡◌, ℕ, zero, suc, ◌+◌, ◌-◌, ◌*◌, ◌/◌, ◌<◌, ◌≤◌, sym, ◌∙◌, ap, subst, arith, refl}
use Rattle.std.proofs.Math.Nat.{mul-le-mul_left, div-le_of_le-mul, div-eq_of_lt-le, div-mul-le_self, lt_of_mul-lt-mul_left, zero-div}
use Rattle.std.proofs.lemmas.Nat.{le-div}
use Rattle.fm_tick.specs.declared.stretch.TheConstants.{MAX_STRETCH}
use Rattle.fm_tick.specs.Quotient.{IsQuotient, IsFlat, IsSloped, flat_of, sloped_of}

-- ---- one number

-- a whole part is what division gives
pub IsQuotient-div : (n d q : ℕ) → IsQuotient n d q → n / d ≡ q
IsQuotient-div n d q is = div-eq_of_lt-le d (omega (arith, is.low)) (omega (arith, is.high))

-- two whole parts of one quotient are equal
pub IsQuotient-unique : (n d q r : ℕ) → IsQuotient n d q → IsQuotient n d r → q ≡ r
IsQuotient-unique n d q r a b = sym (IsQuotient-div n d q a) ∙ IsQuotient-div n d r b

quotient_below : (d q r past n : ℕ) → d * q + past ≤ n → n < d * (r + 1) + past → q ≤ r
quotient_below d q r past n low high =
    let products : d * q < d * (r + 1) = omega arith in
    let numbers : q < r + 1 = lt_of_mul-lt-mul_left d products in
    omega arith

-- two numbers within the bounds of one slope are equal
pub IsSloped-unique : (x v s0 s1 q r : ℕ) → IsSloped x v s0 s1 q → IsSloped x v s0 s1 r → q ≡ r
IsSloped-unique x v s0 s1 q r a b =
    let below = quotient_below (2000 * v) q r _ _ a.low b.high in
    let above = quotient_below (2000 * v) r q _ _ b.low a.high in
    omega arith

-- ---- bounds

div_bounds : (n d : ℕ) → 0 < d → IsQuotient n d (n / d)
div_bounds n d positive = grind arith

-- the number that a steady stretch gives has the two bounds
pub flat_of-bounds : (x s : ℕ) → IsFlat x s (flat_of x s)
unfolding flat_of
flat_of-bounds x s = div_bounds (x * s) 1000 (omega arith)

-- what the sloped quotient divides, at v = x + y, where nothing is subtracted
numerator : (x y s0 s1 : ℕ) → s0 * x * (2 * (x + y) - x) + s1 * x * x ≡ s0 * x * (x + 2 * y) + s1 * x * x
numerator x y s0 s1 = let e : 2 * (x + y) - x ≡ x + 2 * y = omega arith in rw e refl

bounds_at_sum : (x y s0 s1 : ℕ) → 1 ≤ x + y → IsSloped x (x + y) s0 s1 (sloped_of x (x + y) s0 s1)
unfolding sloped_of
bounds_at_sum x y s0 s1 positive =
    let is = div_bounds (s0 * x * (2 * (x + y) - x) + s1 * x * x) (2000 * (x + y)) (omega arith) in
    let e = numerator x y s0 s1 in
    record { low = omega (arith, is.low, e); high = omega (arith, is.high, e) }

-- the number that a slope gives has the two bounds
pub sloped_of-bounds : (x v s0 s1 : ℕ) → 1 ≤ v → x ≤ v → IsSloped x v s0 s1 (sloped_of x v s0 s1)
sloped_of-bounds x v s0 s1 positive inside =
    let e : x + (v - x) ≡ v = omega arith in
    subst (λ (n : ℕ). IsSloped x n s0 s1 (sloped_of x n s0 s1)) e (bounds_at_sum x (v - x) s0 s1 (omega arith))

-- a number within the bounds of a slope is the one that it gives
pub IsSloped-number : (x v s0 s1 q : ℕ) → 1 ≤ v → x ≤ v → IsSloped x v s0 s1 q → q ≡ sloped_of x v s0 s1
IsSloped-number x v s0 s1 q positive inside is =
    IsSloped-unique x v s0 s1 q _ is (sloped_of-bounds x v s0 s1 positive inside)

-- no ticks become none
pub flat_of-zero : (s : ℕ) → flat_of 0 s ≡ 0
unfolding flat_of
flat_of-zero s = omega arith

-- no ticks of a slope become none
pub sloped_of-zero : (v s0 s1 : ℕ) → sloped_of 0 v s0 s1 ≡ 0
unfolding sloped_of
sloped_of-zero v s0 s1 =
    let e : s0 * 0 * (2 * v - 0) + s1 * 0 * 0 ≡ 0 = omega arith in rw e (zero-div (2000 * v))

-- ---- order

-- a steady stretch gives at most 1,000 ticks for each
pub flat_of-le : (x s : ℕ) → s ≤ MAX_STRETCH → flat_of x s ≤ 1000 * x
unfolding flat_of
flat_of-le x s limited = div-le_of_le-mul 1000 (omega (arith, mul-le-mul_left x limited))

le_at_sum : (x y s0 s1 : ℕ) → s0 ≤ MAX_STRETCH → s1 ≤ MAX_STRETCH → sloped_of x (x + y) s0 s1 ≤ 1000 * x
unfolding sloped_of
le_at_sum x y s0 s1 limited0 limited1 =
    div-le_of_le-mul (2000 * (x + y)) (omega (
      arith,
      numerator x y s0 s1,
      mul-le-mul_left (x * (x + 2 * y)) limited0,
      mul-le-mul_left (x * x) limited1,
    ))

-- a slope gives at most 1,000 ticks for each
pub sloped_of-le : (x v s0 s1 : ℕ) → x ≤ v → s0 ≤ MAX_STRETCH → s1 ≤ MAX_STRETCH → sloped_of x v s0 s1 ≤ 1000 * x
sloped_of-le x v s0 s1 inside limited0 limited1 =
    let e : x + (v - x) ≡ v = omega arith in
    subst (λ (n : ℕ). sloped_of x n s0 s1 ≤ 1000 * x) e (le_at_sum x (v - x) s0 s1 limited0 limited1)

-- a number within the bounds of a slope is at most 1,000 ticks for each
pub IsSloped-le : (x v s0 s1 q : ℕ) → 1 ≤ v → x ≤ v → s0 ≤ MAX_STRETCH → s1 ≤ MAX_STRETCH →
    IsSloped x v s0 s1 q → q ≤ 1000 * x
IsSloped-le x v s0 s1 q positive inside limited0 limited1 is =
    rw (IsSloped-number x v s0 s1 q positive inside is) (sloped_of-le x v s0 s1 inside limited0 limited1)

div-mono : (m n d : ℕ) → 0 < d → m ≤ n → m / d ≤ n / d
div-mono m n d positive below = le-div (m / d) n d positive (omega (arith, div-mul-le_self m d))

-- more ticks become no fewer
pub flat_of-mono : (x y s : ℕ) → x ≤ y → flat_of x s ≤ flat_of y s
unfolding flat_of
flat_of-mono x y s below = div-mono (x * s) (y * s) 1000 (omega arith) (omega (arith, mul-le-mul_left s below))

mono_at_sum : (x w z s0 s1 : ℕ) → 1 ≤ x + w + z →
    sloped_of x (x + w + z) s0 s1 ≤ sloped_of (x + w) (x + w + z) s0 s1
unfolding sloped_of
mono_at_sum x w z s0 s1 positive =
    let e : 2 * (x + w + z) - x ≡ x + 2 * w + 2 * z = omega arith in
    let f : 2 * (x + w + z) - (x + w) ≡ x + w + 2 * z = omega arith in
    div-mono _ _ (2000 * (x + w + z)) (omega arith) (rw (e, f) (omega arith))

mono_of_positive : (x y v s0 s1 : ℕ) → 1 ≤ v → x ≤ y → y ≤ v → sloped_of x v s0 s1 ≤ sloped_of y v s0 s1
mono_of_positive x y v s0 s1 positive below inside =
    let e : x + (y - x) ≡ y = omega arith in
    let f : x + (y - x) + (v - y) ≡ v = omega arith in
    subst (λ (n : ℕ). sloped_of x v s0 s1 ≤ sloped_of n v s0 s1) e
    (subst (λ (n : ℕ). sloped_of x n s0 s1 ≤ sloped_of (x + (y - x)) n s0 s1) f
    (mono_at_sum x (y - x) (v - y) s0 s1 (omega arith)))

-- more ticks of a slope become no fewer
pub sloped_of-mono : (x y v s0 s1 : ℕ) → x ≤ y → y ≤ v → sloped_of x v s0 s1 ≤ sloped_of y v s0 s1
sloped_of-mono x y zero s0 s1 below inside =
    let e : x ≡ y = omega arith in omega (arith, ap (λ (n : ℕ). sloped_of n 0 s0 s1) e)
sloped_of-mono x y (suc v) s0 s1 below inside = mono_of_positive x y (suc v) s0 s1 (omega arith) below inside
