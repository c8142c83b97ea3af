-- The least pair of clock and process, one process after another.
use Rattle.std.proofs.Common.{◌≡◌, ◌⊎◌, ℕ, ◌+◌, ◌<◌, ◌≤◌, List, Bool, true, false, Option, Some, None, refl, sym, ◌∙◌, subst, inl, inr, arith}
use Rattle.std.specs.Prelude.{nat_le, if◌then◌else◌}
use Rattle.std.proofs.lemmas.Bool.{cases_eq, cases_lt, leb-true, leb-false}
use Rattle.fm_program.specs.Parts.{PlanParts}
use Rattle.fm_strand.specs.declared.strand.Strand.{Strand}
use Rattle.fm_round.specs.declared.lane.Lane.{Lane}
use Rattle.fm_round.specs.Lanes.{IsLeast, IsNotPast, LeastOf, lesser_of, live_clock, run_clock, run_is_live, lane}

-- who does not run has no clock
pub idle_clock : (p : PlanParts) (ended : Bool) (strand : Option Strand) → run_is_live ended strand ≡ false
    → run_clock p ended strand ≡ None
idle_clock p true strand is = refl
idle_clock p false None is = refl
idle_clock p false (Some t) is = cc

module _ (p : PlanParts) (ss : List Lane) (j : ℕ) where
  -- processes that are not live leave the least pair
  pub least_over : (k : ℕ) → j ≤ k → ((i : ℕ) → j ≤ i → i < k → live_clock p (lane ss i) ≡ None) → (best : Option (ℕ × ℕ))
      → LeastOf p ss j best → LeastOf p ss k best
  least_over k up idle None before = λ i below. by_side i below (cases_lt i j)
    where
      by_side : (i : ℕ) → i < k → (i < j) ⊎ (j ≤ i) → live_clock p (lane ss i) ≡ None
      by_side i below (inl less) = before i less
      by_side i below (inr more) = idle i more below
  least_over k up idle (Some r) before = record {
    inside = let inside = before.inside in omega arith;
    clock = before.clock;
    least = λ i t below live. by_side i t below live (cases_lt i j);
  }
    where
      by_side : (i t : ℕ) → i < k → live_clock p (lane ss i) ≡ Some t → (i < j) ⊎ (j ≤ i) → IsNotPast r.0 r.1 t i
      by_side i t below live (inl less) = before.least i t less live
      by_side i t below live (inr more) = let never : Some t ≡ None = sym live ∙ idle i more below in cc

  -- where the process j is not live the least pair stays
  none_more : (best : Option (ℕ × ℕ)) → live_clock p (lane ss j) ≡ None → LeastOf p ss j best → LeastOf p ss (j + 1) best
  none_more None idle before = λ i below. by_place i below (cases_eq i j)
    where
      by_place : (i : ℕ) → i < j + 1 → (i ≡ j) ⊎ (i ≡ j → ⊥) → live_clock p (lane ss i) ≡ None
      by_place i below (inl same) = subst (λ (k : ℕ). live_clock p (lane ss k) ≡ None) (sym same) idle
      by_place i below (inr apart) = before i (omega arith)
  none_more (Some r) idle before = record {
    inside = let inside = before.inside in omega arith;
    clock = before.clock;
    least = λ i t below live. by_place i t below live (cases_eq i j);
  }
    where
      by_place : (i t : ℕ) → i < j + 1 → live_clock p (lane ss i) ≡ Some t → (i ≡ j) ⊎ (i ≡ j → ⊥) → IsNotPast r.0 r.1 t i
      by_place i t below live (inl same) =
          let never : Some t ≡ None = sym live ∙ subst (λ (k : ℕ). live_clock p (lane ss k) ≡ None) (sym same) idle in cc
      by_place i t below live (inr apart) = before.least i t (omega arith) live

  -- the first live process has the least pair
  first_live : (c : ℕ) → live_clock p (lane ss j) ≡ Some c → LeastOf p ss j None → IsLeast p ss (j + 1) c j
  first_live c live before = record {
    inside = omega arith;
    clock = live;
    least = λ i t below at. by_place i t below at (cases_eq i j);
  }
    where
      by_place : (i t : ℕ) → i < j + 1 → live_clock p (lane ss i) ≡ Some t → (i ≡ j) ⊎ (i ≡ j → ⊥) → IsNotPast c j t i
      by_place i t below at (inl same) =
          let here : Some t ≡ Some c = sym at ∙ subst (λ (k : ℕ). live_clock p (lane ss k) ≡ Some c) (sym same) live in
          let clock : t ≡ c = cc in inr (sym clock, omega arith)
      by_place i t below at (inr apart) = let never : Some t ≡ None = sym at ∙ before i (omega arith) in cc

  -- a clock that is no less leaves the pair
  kept : (r : ℕ × ℕ) (c : ℕ) → live_clock p (lane ss j) ≡ Some c → IsLeast p ss j r.0 r.1 → r.0 ≤ c → IsLeast p ss (j + 1) r.0 r.1
  kept r c live before no_less = record {
    inside = let inside = before.inside in omega arith;
    clock = before.clock;
    least = λ i t below at. by_place i t below at (cases_eq i j);
  }
    where
      by_clock : (t : ℕ) → t ≡ c → (r.0 < c) ⊎ (c ≤ r.0) → IsNotPast r.0 r.1 t j
      by_clock t is (inl less) = inl (omega arith)
      by_clock t is (inr same) = let inside = before.inside in inr (omega arith, omega arith)

      by_place : (i t : ℕ) → i < j + 1 → live_clock p (lane ss i) ≡ Some t → (i ≡ j) ⊎ (i ≡ j → ⊥) → IsNotPast r.0 r.1 t i
      by_place i t below at (inl same) =
          let here : Some t ≡ Some c = sym at ∙ subst (λ (k : ℕ). live_clock p (lane ss k) ≡ Some c) (sym same) live in
          let clock : t ≡ c = cc in
          subst (IsNotPast r.0 r.1 t) (sym same) (by_clock t clock (cases_lt r.0 c))
      by_place i t below at (inr apart) = before.least i t (omega arith) at

  -- a lesser clock makes a new pair
  lower : (r : ℕ × ℕ) (c : ℕ) → live_clock p (lane ss j) ≡ Some c → IsLeast p ss j r.0 r.1 → c < r.0 → IsLeast p ss (j + 1) c j
  lower r c live before less = record {
    inside = omega arith;
    clock = live;
    least = λ i t below at. by_place i t below at (cases_eq i j);
  }
    where
      by_pair : (t i : ℕ) → IsNotPast r.0 r.1 t i → IsNotPast c j t i
      by_pair t i (inl above) = inl (omega arith)
      by_pair t i (inr same) = let at = same.0 in inl (omega arith)

      by_place : (i t : ℕ) → i < j + 1 → live_clock p (lane ss i) ≡ Some t → (i ≡ j) ⊎ (i ≡ j → ⊥) → IsNotPast c j t i
      by_place i t below at (inl same) =
          let here : Some t ≡ Some c = sym at ∙ subst (λ (k : ℕ). live_clock p (lane ss k) ≡ Some c) (sym same) live in
          let clock : t ≡ c = cc in inr (sym clock, omega arith)
      by_place i t below at (inr apart) = by_pair t i (before.least i t (omega arith) at)

  -- the pair after one process more
  pub least_more : (best : Option (ℕ × ℕ)) (clock : Option ℕ) → live_clock p (lane ss j) ≡ clock → LeastOf p ss j best
      → LeastOf p ss (j + 1) (lesser_of best clock j)
  least_more best None live before = none_more best live before
  least_more None (Some c) live before = first_live c live before
  least_more (Some r) (Some c) live before = by_test (nat_le r.0 c) refl
    where
      by_test : (b : Bool) → nat_le r.0 c ≡ b → LeastOf p ss (j + 1) (if b then Some r else Some (c, j))
      by_test true is = kept r c live before (leb-true r.0 c is)
      by_test false is = lower r c live before (leb-false r.0 c is)
