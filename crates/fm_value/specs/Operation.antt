-- Operations on whole numbers, and the range to which their results are clamped.
use Rattle.std.specs.Prelude.{ℕ, zero, suc, ◌/◌, ℤ, pos, negsuc, ◌+ℤ◌, ◌-ℤ◌, ◌*ℤ◌, ◌≤ℤ◌, neg_ℤ, int_lt, if◌then◌else◌}
use Rattle.std.specs.Int.{int_min, int_max}
use Rattle.std.specs.Ordering.{int_eq}
use Rattle.fm_value.specs.declared.operation.Operation.{Operation}
use Rattle.fm_value.specs.declared.operation.Operation.TheVariants.{Add, Subtract, Multiply, Divide, Remain, Min, Max, Less, Same}
use Rattle.fm_value.specs.declared.node.TheConstants.{MAX_VALUE}

-- the number is a value: within one million of 0
abbrev pub IsWithin : ℤ → Type 0
IsWithin x = (neg_ℤ (pos MAX_VALUE) ≤ℤ x) × (x ≤ℤ pos MAX_VALUE)

-- the nearest value
abbrev pub clamped : ℤ → ℤ
clamped x = int_max (neg_ℤ (pos MAX_VALUE)) (int_min x (pos MAX_VALUE))

-- the floor of a number divided by a positive one: of -(a + 1) it is one below -(a / m)
abbrev pub floor_by : ℤ → ℕ → ℤ
floor_by (pos a) m = pos (a / m)
floor_by (negsuc a) m = negsuc (a / m)

-- the floor of the quotient, 0 where the divisor is 0
abbrev pub floor_div : ℤ → ℤ → ℤ
floor_div x (pos zero) = pos 0
floor_div x (pos (suc m)) = floor_by x (suc m)
floor_div x (negsuc m) = floor_by (neg_ℤ x) (suc m)

-- what the floor of the quotient leaves, 0 where the divisor is 0
abbrev pub floor_rem : ℤ → ℤ → ℤ
floor_rem x (pos zero) = pos 0
floor_rem x (pos (suc m)) = x -ℤ (pos (suc m) *ℤ floor_div x (pos (suc m)))
floor_rem x (negsuc m) = x -ℤ (negsuc m *ℤ floor_div x (negsuc m))

-- an operation's result before it is clamped
abbrev pub operated : Operation → ℤ → ℤ → ℤ
operated Add x y = x +ℤ y
operated Subtract x y = x -ℤ y
operated Multiply x y = x *ℤ y
operated Divide x y = floor_div x y
operated Remain x y = floor_rem x y
operated Min x y = int_min x y
operated Max x y = int_max x y
operated Less x y = if int_lt x y then pos 1 else pos 0
operated Same x y = if int_eq x y then pos 1 else pos 0
