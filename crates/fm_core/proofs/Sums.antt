-- Sums over the numbers below a bound, and the events of each process counted.
use Rattle.std.proofs.Common.{◌≡◌, ◌≢◌, ℕ, zero, suc, ◌+◌, ◌<◌, ◌≤◌, List, [], ◌∷◌, length, get_or, Bool, true, false, refl, sym, subst, arith}
use Rattle.std.proofs.lemmas.Bool.{eqb-true, eq-eqb}
use Rattle.std.specs.Prelude.{nat_eq, if◌then◌else◌}
use mathlib.Core.Logic.{dite}
use native.Mathlib.Decide.{ℕ_discrete}
use Rattle.fm_line.specs.Line.{sum_below, event_at}
use Rattle.fm_core.specs.Invariant.{of_process}
use Rattle.fm_core.specs.Numbers.{bit}
use Rattle.fm_msg.specs.Event.{TimedMessage}

-- a sum over numbers that are nowhere greater is not greater
pub sum_le : (n : ℕ) (f g : ℕ → ℕ) → ((q : ℕ) → q < n → f q ≤ g q) → sum_below n f ≤ sum_below n g
sum_le zero f g each = omega arith
sum_le (suc n) f g each = let a = sum_le n f g (λ q lt. each q (omega arith)) in let b = each n (omega arith) in omega arith

-- less at one number, and nowhere more
pub sum_less : (n p : ℕ) (f g : ℕ → ℕ) → ((q : ℕ) → q < n → f q ≤ g q) → p < n → f p < g p → sum_below n f < sum_below n g
sum_less zero p f g each lt less = absurd (omega arith)
sum_less (suc n) p f g each lt less = dite (ℕ_discrete p n)
    (λ e. let a = sum_le n f g (λ q below. each q (omega arith)) in let b : f n < g n = subst (λ (k : ℕ). f k < g k) e less in
    omega arith)
    (λ d. let a = sum_less n p f g (λ q below. each q (omega arith)) (omega arith) less in let b = each n (omega arith) in omega arith)

-- sums over the same numbers are the same
pub sum_same : (n : ℕ) (f g : ℕ → ℕ) → ((q : ℕ) → q < n → f q ≡ g q) → sum_below n f ≡ sum_below n g
sum_same zero f g each = refl
sum_same (suc n) f g each = let a = sum_same n f g (λ q lt. each q (omega arith)) in let b = each n (omega arith) in omega arith

sum_none : (n : ℕ) → sum_below n (λ p. 0) ≡ 0
sum_none zero = refl
sum_none (suc n) = let a = sum_none n in omega arith

sum_beyond : (n k : ℕ) → n ≤ k → sum_below n (λ p. bit (nat_eq k p)) ≡ 0
sum_beyond zero k le = refl
sum_beyond (suc n) k le = let a = sum_beyond n k (omega arith) in let b : nat_eq k n ≡ false = go (nat_eq k n) refl in rw b (omega arith)
  where
    go : (x : Bool) → nat_eq k n ≡ x → nat_eq k n ≡ false
    go true e = let same = eqb-true k n e in absurd (omega arith)
    go false e = e

sum_one : (n k : ℕ) → k < n → sum_below n (λ p. bit (nat_eq k p)) ≡ 1
sum_one zero k lt = absurd (omega arith)
sum_one (suc n) k lt = go (nat_eq k n) refl (λ below. sum_one n k below)
  where
    go : (x : Bool) → nat_eq k n ≡ x → (k < n → sum_below n (λ p. bit (nat_eq k p)) ≡ 1)
        → sum_below n (λ p. bit (nat_eq k p)) + bit (nat_eq k n) ≡ 1
    go true e before = let same = eqb-true k n e in let a = sum_beyond n k (omega arith) in rw e (omega arith)
    go false e before = let apart : k ≢ n = (λ s. let holds_at = eq-eqb k n s in absurd (cc)) in let a = before (omega arith) in
        rw e (omega arith)

sum_plus : (n : ℕ) (f g : ℕ → ℕ) → sum_below n (λ p. f p + g p) ≡ sum_below n f + sum_below n g
sum_plus zero f g = refl
sum_plus (suc n) f g = let a = sum_plus n f g in omega arith

one_more : (p : ℕ) (e : TimedMessage) (es : List TimedMessage)
    → length (of_process p (e ∷ es)) ≡ length (of_process p es) + bit (nat_eq e.process p)
one_more p e es = go (nat_eq e.process p)
  where
    go : (b : Bool) → length (if b then e ∷ of_process p es else of_process p es) ≡ length (of_process p es) + bit b
    go true = omega arith
    go false = omega arith

-- a list of events has as many as those of each process together
pub counted : (n : ℕ) (es : List TimedMessage) → ((k : ℕ) → k < length es → (get_or es k (event_at 0)).process < n)
    → length es ≡ sum_below n (λ p. length (of_process p es))
counted n [] each = sym (sum_none n)
counted n (e ∷ es) each = let rest = counted n es (λ k lt. each (suc k) (omega arith)) in
    let here = sum_one n e.process (each 0 (omega arith)) in
    let split = sum_plus n (λ p. length (of_process p es)) (λ p. bit (nat_eq e.process p)) in
    let all = sum_same n (λ p. length (of_process p (e ∷ es))) (λ p. length (of_process p es) + bit (nat_eq e.process p))
    (λ p lt. one_more p e es) in
    omega arith
