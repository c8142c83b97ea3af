-- What a number of ticks becomes in the level above: quotients, each named by its two bounds.
use Rattle.std.specs.Prelude.{ℕ, ◌+◌, ◌-◌, ◌*◌, ◌/◌, ◌<◌, ◌≤◌}

-- q is the whole part of n over d
pub record IsQuotient (n d q : ℕ) : Type 0 where
  pub low : d * q ≤ n
  pub high : n < d * (q + 1)

-- q is what x ticks become under a steady stretch of s thousandths
abbrev pub IsFlat : ℕ → ℕ → ℕ → Type 0
IsFlat x s q = IsQuotient (x * s) 1000 q

-- q is what the first x ticks become of a slope from s0 to s1 thousandths over v ticks:
-- 2000*v*q ≤ 2*v*s0*x + (s1-s0)*x*x < 2000*v*(q+1) over the integers, where s1-s0 may be negative,
-- with s0*x*x added to each of the three sides
pub record IsSloped (x v s0 s1 q : ℕ) : Type 0 where
  pub low : 2000 * v * q + s0 * (x * x) ≤ 2 * v * s0 * x + s1 * (x * x)
  pub high : 2 * v * s0 * x + s1 * (x * x) < 2000 * v * (q + 1) + s0 * (x * x)

-- the number that IsFlat names
unfoldable pub flat_of : ℕ → ℕ → ℕ
flat_of x s = x * s / 1000

-- the number that IsSloped names, where 1 ≤ v and x ≤ v
unfoldable pub sloped_of : ℕ → ℕ → ℕ → ℕ → ℕ
sloped_of x v s0 s1 = (s0 * x * (2 * v - x) + s1 * x * x) / (2000 * v)
