-- The least pair of a sweep.
use Rattle.std.proofs.Common.{◌≡◌, ◌⊎◌, ℕ, zero, suc, ◌+◌, ◌-◌, ◌<◌, ◌≤◌, List, [], ◌∷◌, length, Bool, true, false, Option, Some, None, refl, inl, inr, arith, ltb-true}
use Rattle.std.specs.Prelude.{nat_lt, if◌then◌else◌}
use mathlib.Core.Logic.{dite}
use native.Mathlib.Decide.{ℕ_discrete}
use Rattle.fm_core.proofs.Booleans.{not_below}
use Rattle.fm_core.specs.Invariant.{NotBelow}
use Rattle.fm_core.specs.Least.{IsLeastOf, Lowest}
use Rattle.fm_core.specs.Sweep.{sight, least, lesser, least_from}
use Rattle.fm_core.specs.declared.sight.Sight.{Sight}

-- what the least pair of a sweep is, where the first sight is of the process k
pub record IsLeast (k : ℕ) (xs : List Sight) (a : ℕ × ℕ) : Type 0 where
  pub from : k ≤ a.1
  pub below : a.1 < k + length xs
  pub open_there : (sight xs (a.1 - k)).ended ≡ false
  pub clock : (sight xs (a.1 - k)).clock ≡ a.0
  pub lower : (j : ℕ) → j < length xs → (sight xs j).ended ≡ false → NotBelow a.0 a.1 (sight xs j).clock (k + j)

-- what the least pair of a sweep is, or that all was seen ended
abbrev pub LeastOf : ℕ → List Sight → Option (ℕ × ℕ) → Type 0
LeastOf k xs None = (j : ℕ) → j < length xs → (sight xs j).ended ≡ true
LeastOf k xs (Some a) = IsLeast k xs a

-- one more sight in front
shifted : (k : ℕ) (x : Sight) (xs : List Sight) (a : ℕ × ℕ) → IsLeast (suc k) xs a → (x.ended ≡ false → NotBelow a.0 a.1 x.clock k)
    → IsLeast k (x ∷ xs) a
shifted k x xs a r here = let from = r.from in let below = r.below in let at : a.1 - k ≡ suc (a.1 - suc k) = omega arith in record {
  from = omega arith;
  below = omega arith;
  open_there = rw at r.open_there;
  clock = rw at r.clock;
  lower = each;
}
  where
    each : (j : ℕ) → j < length (x ∷ xs) → (sight (x ∷ xs) j).ended ≡ false → NotBelow a.0 a.1 (sight (x ∷ xs) j).clock (k + j)
    each zero lt e = let z : k + 0 ≡ k = omega arith in rw z (here e)
    each (suc j) lt e = let z : k + suc j ≡ suc k + j = omega arith in rw z (r.lower j (omega arith) e)

-- the first one is the least
first_is : (k : ℕ) (x : Sight) (xs : List Sight) → x.ended ≡ false
    → ((j : ℕ) → j < length xs → (sight xs j).ended ≡ false → NotBelow x.clock k (sight xs j).clock (suc k + j))
    → IsLeast k (x ∷ xs) (x.clock, k)
first_is k x xs e rest = let at : k - k ≡ 0 = omega arith in record {
  from = omega arith;
  below = omega arith;
  open_there = rw at e;
  clock = rw at refl;
  lower = each;
}
  where
    each : (j : ℕ) → j < length (x ∷ xs) → (sight (x ∷ xs) j).ended ≡ false → NotBelow x.clock k (sight (x ∷ xs) j).clock (k + j)
    each zero lt f = inr (refl, omega arith)
    each (suc j) lt f = let z : k + suc j ≡ suc k + j = omega arith in rw z (rest j (omega arith) f)

no_more : (m i a b t p : ℕ) → NotBelow a b t p → (m < a) ⊎ ((m ≡ a) × (i ≤ b)) → NotBelow m i t p
no_more m i a b t p (inl x) (inl y) = inl (omega arith)
no_more m i a b t p (inl x) (inr y) = let z = y.0 in inl (omega arith)
no_more m i a b t p (inr x) (inl y) = let z = x.0 in inl (omega arith)
no_more m i a b t p (inr x) (inr y) = let z = x.0 in let w = y.0 in let v = x.1 in let u = y.1 in inr (omega arith, omega arith)

-- the least pair computed is the least pair
pub least_is : (k : ℕ) (xs : List Sight) → LeastOf k xs (least_from k xs)
least_is k [] = λ j lt. absurd (omega arith)
least_is k (x ∷ xs) = go x.ended refl (least_from (suc k) xs) (least_is (suc k) xs)
  where
    all_ended : x.ended ≡ true → LeastOf (suc k) xs None → (j : ℕ) → j < length (x ∷ xs) → (sight (x ∷ xs) j).ended ≡ true
    all_ended e rest zero lt = e
    all_ended e rest (suc j) lt = rest j (omega arith)

    pick : (t : Bool) (b : ℕ × ℕ) → nat_lt b.0 x.clock ≡ t → x.ended ≡ false → IsLeast (suc k) xs b
        → LeastOf k (x ∷ xs) (if t then Some b else Some (x.clock, k))
    pick true b e open_here r = let lt = ltb-true b.0 x.clock e in shifted k x xs b r (λ _. inl lt)
    pick false b e open_here r = let le = not_below b.0 x.clock e in let from = r.from in
        first_is k x xs open_here (λ j lt f. no_more x.clock k b.0 b.1 (sight xs j).clock (suc k + j) (r.lower j lt f)
        (dite (ℕ_discrete x.clock b.0) (λ s. inr (s, omega arith)) (λ d. inl (omega arith))))

    go : (t : Bool) → x.ended ≡ t → (o : Option (ℕ × ℕ)) → LeastOf (suc k) xs o
        → LeastOf k (x ∷ xs) (lesser (if t then None else Some (x.clock, k)) o)
    go true e None rest = all_ended e rest
    go true e (Some b) rest = shifted k x xs b rest (λ f. absurd (cc))
    go false e None rest = first_is k x xs e (λ j lt f. let g = rest j lt in absurd (cc))
    go false e (Some b) rest = pick (nat_lt b.0 x.clock) b refl e rest

-- the least pair of a whole sweep, by the number of its process
pub lowest : (xs : List Sight) (a : ℕ × ℕ) → IsLeast 0 xs a → Lowest xs a.0 a.1
lowest xs a r = let z : a.1 - 0 ≡ a.1 = omega arith in let low = r.below in record {
  below = omega arith;
  open_there = rw z at r.open_there;
  clock = rw z at r.clock;
  lower = λ j lt e. let y : 0 + j ≡ j = omega arith in rw y at (r.lower j lt e);
}

-- the pair that is computed is the least one
pub least_of : (xs : List Sight) → IsLeastOf xs (least xs)
least_of xs = go (least xs) (least_is 0 xs)
  where
    go : (o : Option (ℕ × ℕ)) → LeastOf 0 xs o → IsLeastOf xs o
    go None all = all
    go (Some a) is = lowest xs a is
