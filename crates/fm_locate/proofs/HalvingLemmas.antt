-- A range that is halved again and again is empty after as many steps as its length has binary digits.
use Rattle.std.proofs.Common.{ℕ, zero, suc, ◌-◌, ◌*◌, ◌^◌, ◌<◌, ◌≤◌, ◌≡◌, arith}
use Rattle.std.proofs.Math.Nat.{pow-succ'}

-- half of what has k digits has one fewer
pub halved : (d e k : ℕ) → 0 < d → d < 2 ^ k → e * 2 ≤ d → (0 < k) × (e < 2 ^ (k - 1))
halved d e zero some below half = absurd (omega (arith, below, some))
halved d e (suc k) some below half =
    let less : suc k - 1 ≡ k = omega arith in
    (omega arith, rw less (omega (arith, below, half, pow-succ' 2 k)))
