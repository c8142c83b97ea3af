-- Tests joined, and what follows from them.
use Rattle.std.proofs.Common.{◌≡◌, ◌⊎◌, ℕ, ◌≤◌, Bool, true, false, refl, sym, inl, inr, arith}
use Rattle.std.proofs.lemmas.Bool.Decides.{nat_tests}
use Rattle.std.specs.Prelude.{not, ◌&&◌, ◌||◌, nat_lt, if◌then◌else◌}
use Rattle.fm_core.specs.Numbers.{bit, bool_eq}

-- a test whose negation fails holds
pub not_false : (b : Bool) → not b ≡ false → b ≡ true
not_false true e = refl
not_false false e = absurd (cc)

-- a test whose negation holds fails
pub not_true : (b : Bool) → not b ≡ true → b ≡ false
not_true true e = absurd (cc)
not_true false e = refl

-- the negation of what holds fails
pub false_from : (b : Bool) → b ≡ true → not b ≡ false
false_from true e = refl
false_from false e = absurd (cc)

-- the negation of what fails holds
pub true_from : (b : Bool) → b ≡ false → not b ≡ true
true_from true e = absurd (cc)
true_from false e = refl

-- where a choice fails both tests fail
pub either_false : (a b : Bool) → (a || b) ≡ false → (a ≡ false) × (b ≡ false)
either_false true b e = absurd (cc)
either_false false b e = (refl, e)

-- where both tests fail their choice fails
pub neither : (a b : Bool) → a ≡ false → b ≡ false → (a || b) ≡ false
neither true b e f = absurd (cc)
neither false b e f = f

-- a choice holds where its left test holds
pub or_left : (a b : Bool) → a ≡ true → (a || b) ≡ true
or_left true b e = refl
or_left false b e = absurd (cc)

-- a choice holds where its right test holds
pub or_right : (a b : Bool) → b ≡ true → (a || b) ≡ true
or_right true b e = refl
or_right false b e = e

-- where a choice holds one of its tests holds
pub or_cases : (a b : Bool) → (a || b) ≡ true → (a ≡ true) ⊎ (b ≡ true)
or_cases true b e = inl refl
or_cases false b e = inr e

-- a choice holds where one of its tests holds
pub or_join : (a b : Bool) → (a ≡ true) ⊎ (b ≡ true) → (a || b) ≡ true
or_join a b (inl e) = or_left a b e
or_join a b (inr e) = or_right a b e

-- where a conjunction holds both tests hold
pub both : (a b : Bool) → (a && b) ≡ true → (a ≡ true) × (b ≡ true)
both true b e = (refl, e)
both false b e = absurd (cc)

-- a conjunction holds where both tests hold
pub and_true : (a b : Bool) → a ≡ true → b ≡ true → (a && b) ≡ true
and_true true b e f = f
and_true false b e f = absurd (cc)

-- where a conjunction fails and its left test holds, the right one fails
pub and_false : (a b : Bool) → (a && b) ≡ false → a ≡ true → b ≡ false
and_false true b e f = e
and_false false b e f = absurd (cc)

-- a conjunction fails where its left test fails
pub left_false : (a b : Bool) → a ≡ false → (a && b) ≡ false
left_false true b e = absurd (cc)
left_false false b e = refl

-- a conjunction fails where its right test fails
pub right_false : (a b : Bool) → b ≡ false → (a && b) ≡ false
right_false true b e = e
right_false false b e = refl

-- tests that are found to answer the same are the same
pub same_bool : (a b : Bool) → bool_eq a b ≡ true → a ≡ b
same_bool true b e = sym e
same_bool false b e = sym (not_true b e)

-- what is not below is at least as great
pub not_below : (a b : ℕ) → nat_lt a b ≡ false → b ≤ a
not_below a b e = grind (arith, nat_tests)

-- a choice by a test that holds is the first value
pub if_true : {A : Type 0} (b : Bool) (x y : A) → b ≡ true → (if b then x else y) ≡ x
if_true true x y e = refl
if_true false x y e = absurd (cc)

-- a choice by a test that fails is the second value
pub if_false : {A : Type 0} (b : Bool) (x y : A) → b ≡ false → (if b then x else y) ≡ y
if_false true x y e = absurd (cc)
if_false false x y e = refl

-- a bit is at most 1
pub bit_one : (b : Bool) → bit b ≤ 1
bit_one true = omega arith
bit_one false = omega arith

-- no test holds and fails
pub clash : (b : Bool) → b ≡ true → b ≡ false → ⊥
clash true e f = cc
clash false e f = cc

-- where a test holds and not with the negation of another, that one holds
pub and_not : (a b : Bool) → (a && not b) ≡ false → a ≡ true → b ≡ true
and_not a b e f = not_false b (and_false a (not b) e f)

-- what is not above 0 is 0
pub not_positive : (n : ℕ) → nat_lt 0 n ≡ false → n ≡ 0
not_positive n e = let a = not_below 0 n e in omega arith
