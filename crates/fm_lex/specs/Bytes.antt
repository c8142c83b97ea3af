-- The classes of bytes in a text, and the spot at which each byte stands.
use Rattle.std.specs.Prelude.{ℕ, ◌+◌, ◌-◌, ◌*◌, ◌^◌, Bool, false, ◌&&◌, ◌||◌, ◌==◌, if◌then◌else◌, nat_le, codes, List, [], ◌∷◌, ◌++◌, length, drop}
use Rattle.std.specs.List.{prefix_len}
use Rattle.std.specs.Fmt as written
use Rattle.fm_lex.specs.declared.spot.Spot.{Spot}

-- 0 to 9
abbrev pub is_digit : ℕ → Bool
is_digit x = nat_le 48 x && nat_le x 57

-- a to z
abbrev pub is_letter : ℕ → Bool
is_letter x = nat_le 97 x && nat_le x 122

-- what a word has behind its first letter: letters, digits and _
abbrev pub in_word : ℕ → Bool
in_word x = is_letter x || (is_digit x || (x == 95))

-- the space, the tab, the line feed and the carriage return
abbrev pub is_blank : ℕ → Bool
is_blank x = (x == 32) || ((x == 9) || ((x == 10) || (x == 13)))

-- whether a byte is one of these
abbrev pub one_of : ℕ → List ℕ → Bool
one_of x [] = false
one_of x (y ∷ ys) = (x == y) || one_of x ys

-- the bytes that are tokens of their own
abbrev pub is_symbol : ℕ → Bool
is_symbol x = one_of x (codes ";{}()[],=/+-*%")

-- the number that decimal digits spell
abbrev pub decimal : List ℕ → ℕ
decimal [] = 0
decimal (x ∷ xs) = (x - 48) * 10 ^ length xs + decimal xs

-- what follows the longest front that passes the test
abbrev pub past : (ℕ → Bool) → List ℕ → List ℕ
past test xs = drop (prefix_len test xs) xs

-- the spot of a text's first byte
abbrev pub first_spot : Spot
first_spot = record { line = 1; column = 1 }

-- the spot behind a byte: behind a line feed a new line begins
abbrev pub after_byte : ℕ → Spot → Spot
after_byte x s =
    if x == 10 then record { line = s.line + 1; column = 1 } else record { line = s.line; column = s.column + 1 }

-- how a spot is written: its line, a colon and its column
abbrev pub spot_text : Spot → List ℕ
spot_text s = written.decimal s.line ++ (codes ":" ++ written.decimal s.column)
