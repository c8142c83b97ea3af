-- The generator: a linear congruential sequence modulo 2^64, of which draws show the high 31 bits.
use Rattle.std.specs.Prelude.{ℕ, zero, suc, ◌+◌, ◌*◌, ◌/◌, ◌%◌, ◌^◌, ℤ, pos, negsuc}

-- the state after one step
abbrev pub next_state : ℕ → ℕ
next_state s = (s * 6364136223846793005 + 1442695040888963407) % 2 ^ 64

-- a draw below n from the state stepped to; 0 where n is below 1
abbrev pub draw_below : ℤ → ℕ → ℤ
draw_below (pos zero) s = pos 0
draw_below (pos (suc n)) s = pos (s / 2 ^ 33 % suc n)
draw_below (negsuc n) s = pos 0
