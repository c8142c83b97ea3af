-- Tests over the numbers below a bound.
use Rattle.std.specs.Prelude.{ℕ, zero, suc, Bool, true, false, if◌then◌else◌, Option, Some, None, not}

-- 1 where the test holds, else 0
abbrev pub bit : Bool → ℕ
bit true = 1
bit false = 0

-- whether there is one
abbrev pub is_some : {A : Type 0} → Option A → Bool
is_some None = false
is_some (Some a) = true

-- the first, or where there is none the second
abbrev pub or_found : Option ℕ → Option ℕ → Option ℕ
or_found (Some k) o = Some k
or_found None o = o

-- the least number below n at which the test holds
abbrev pub find_below : ℕ → (ℕ → Bool) → Option ℕ
find_below zero f = None
find_below (suc n) f = or_found (find_below n f) (if f n then Some n else None)

-- whether the test holds at some number below n
abbrev pub any_below : ℕ → (ℕ → Bool) → Bool
any_below n f = is_some (find_below n f)

-- whether two tests answer the same
abbrev pub bool_eq : Bool → Bool → Bool
bool_eq true b = b
bool_eq false b = not b
