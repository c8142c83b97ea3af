-- A test holds somewhere exactly where the count of the places at which it holds is above 0.
use Rattle.std.proofs.Common.{◌≡◌, ℕ, zero, suc, ◌+◌, ◌<◌, ◌≤◌, List, [], ◌∷◌, length, get_or, Bool, true, false, sym, ap, ◌∙◌, refl, arith}
use Rattle.std.specs.Prelude.{nat_lt, cond}
use Rattle.std.specs.List.{count_by}
use Rattle.std.proofs.lemmas.Bool.{lt-ltb}
use Rattle.std.proofs.lemmas.List.Sums.{sum_by-cons, get_or-le-sum_by}
use Rattle.fm_core.specs.Numbers.{any_below}
use Rattle.fm_core.proofs.Below.{any_at, not_any}

-- 1 for a yes
abbrev one_where : Bool → ℕ
one_where b = cond b 1 0

module _ {A : Type 0} (f : A → Bool) (d : A) where
  -- an index below the length at which the test holds
  record Stands (xs : List A) : Type 0 where
    index : ℕ
    below : index < length xs
    holds : f (get_or xs index d) ≡ true

  -- where the count is above 0, there is one
  stands : (xs : List A) → 0 < count_by f xs → Stands xs
  stands [] some = absurd (omega arith)
  stands (x ∷ xs) some = by_test (f x) refl (stands xs) (sum_by-cons (λ y. one_where (f y)) x xs)
    where
      by_test : (b : Bool) → f x ≡ b → (0 < count_by f xs → Stands xs)
          → count_by f (x ∷ xs) ≡ one_where (f x) + count_by f xs → Stands (x ∷ xs)
      by_test true is before parts = record { index = 0; below = omega arith; holds = is }
      by_test false is before parts =
          let none : one_where (f x) ≡ one_where false = ap one_where is in
          let rest = before (omega (arith, none, parts, some)) in
          let below = rest.below in
          record { index = suc rest.index; below = omega arith; holds = rest.holds }

  -- where it is 0, there is none
  none_stands : (xs : List A) → count_by f xs ≡ 0 → (p : ℕ) → p < length xs → f (get_or xs p d) ≡ false
  none_stands xs none p lt = by_test (f (get_or xs p d)) refl (get_or-le-sum_by (λ y. one_where (f y)) xs p d lt)
    where
      by_test : (b : Bool) → f (get_or xs p d) ≡ b → one_where (f (get_or xs p d)) ≤ count_by f xs → f (get_or xs p d) ≡ false
      by_test true is few = let one : one_where (f (get_or xs p d)) ≡ one_where true = ap one_where is in
          absurd (omega (arith, one, few, none))
      by_test false is few = is

  -- the test holds somewhere exactly where the count is above 0
  pub counted_is : (n : ℕ) (xs : List A) → n ≡ count_by f xs → nat_lt 0 n ≡ any_below (length xs) (λ p. f (get_or xs p d))
  counted_is zero xs is = sym (not_any (length xs) (λ p. f (get_or xs p d)) (none_stands xs (sym is)))
  counted_is (suc n) xs is =
      let one = stands xs (omega (arith, is)) in
      lt-ltb 0 (suc n) (omega arith) ∙ sym (any_at (length xs) (λ p. f (get_or xs p d)) one.index one.below one.holds)
