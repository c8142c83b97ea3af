-- A number for a name, by which names are ordered before their bytes are.
use Rattle.std.specs.Prelude.{ℕ, ◌+◌, ◌-◌, ◌*◌, ◌%◌, ◌^◌, List, fold}

-- a number of at most eight bytes, with one byte more behind it and without the byte that is then the ninth
abbrev pub shifted : ℕ → ℕ → ℕ
shifted number byte = number % 2 ^ 56 * 256 + byte

-- the last eight bytes of a name as one number, or all of them where there are fewer, counted down
unfoldable pub key_of : List ℕ → ℕ
key_of name = 2 ^ 64 - 1 - fold shifted 0 name
