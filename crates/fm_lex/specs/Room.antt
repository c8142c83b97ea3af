-- What the steps of the lexer require and leave.
use Rattle.std.specs.Prelude.{◌≡◌, ℕ, ◌+◌, ◌<◌, ◌^◌, ◌==◌, true, false, List, [], ◌∷◌, length}
use Rattle.fm_lex.specs.declared.spot.Spot.{Spot}
use Rattle.fm_lex.specs.Bytes.{is_digit, is_blank}

-- the spots of a text's bytes and of its end fit 32 bits
pub record SpotsFit (from : Spot) (text : List ℕ) : Type 0 where
  pub lines : from.line + length text < 2 ^ 32
  pub columns : from.column + length text < 2 ^ 32

-- the text is at its end, or neither a blank nor a comment comes first
abbrev pub BeginsToken : List ℕ → Type 0
BeginsToken [] = Unit {0}
BeginsToken (x ∷ xs) = (is_blank x ≡ false) × ((x == 35) ≡ false)

-- a digit comes first
abbrev pub BeginsDigit : List ℕ → Type 0
BeginsDigit [] = ⊥
BeginsDigit (x ∷ xs) = is_digit x ≡ true
