-- Texts and their tokens, by computing.
use Rattle.std.proofs.Common.{◌≡◌, ℕ, List, [], ◌∷◌, ◌++◌, Ok, Err, map, refl}
use Rattle.std.specs.Prelude.{codes, true, false, Some, None}
use Rattle.std.specs.Fmt.{digits}
use Rattle.fm_lex.specs.declared.kind.Kind.{Kind}
use Rattle.fm_lex.specs.declared.kind.Kind.TheVariants.{Name, Number, Pitch, Register, Index, Symbol, End}
use Rattle.fm_lex.specs.declared.kind.Kind.TheVariants as kinds
use Rattle.fm_lex.specs.declared.keyword.Keyword.TheVariants.{Formula, Note, Key, Min}
use Rattle.fm_lex.specs.declared.token.LexFault.{LexFault}
use Rattle.fm_lex.specs.declared.token.LexFault.TheVariants.{BadByte, BadNumber}
use Rattle.fm_lex.specs.Bytes.{is_digit, is_letter, decimal, spot_text}
use Rattle.fm_lex.specs.Words.{spelling, keywords, register_of, index_of, pitch_of}
use Rattle.fm_lex.specs.Tokens.{Lexed, tokens, walk}

-- digits and letters, and the bytes beside them
digits_and_letters : map is_digit (47 ∷ 48 ∷ 57 ∷ 58 ∷ []) ++ map is_letter (96 ∷ 97 ∷ 122 ∷ 123 ∷ [])
    ≡ false ∷ true ∷ true ∷ false ∷ false ∷ true ∷ true ∷ false ∷ []
digits_and_letters = refl

-- registers and indices at both ends of their ranges
registers : map register_of (codes "r0" ∷ codes "r7" ∷ codes "r8" ∷ codes "r/" ∷ codes "n0" ∷ [])
    ≡ Some 0 ∷ Some 7 ∷ None ∷ None ∷ None ∷ []
registers = refl

indices : map index_of (codes "n0" ∷ codes "n9" ∷ codes "n10" ∷ codes "n15" ∷ codes "n16" ∷ codes "n1/" ∷ codes "n20"
    ∷ codes "r1" ∷ codes "m12" ∷ codes "nn" ∷ [])
    ≡ Some 0 ∷ Some 9 ∷ Some 10 ∷ Some 15 ∷ None ∷ None ∷ None ∷ None ∷ None ∷ None ∷ []
indices = refl

-- a pitch of each letter, and words that are none
letters : map pitch_of (codes "c0" ∷ codes "d1" ∷ codes "e2" ∷ codes "f3" ∷ codes "g4" ∷ codes "a5" ∷ codes "b6" ∷ codes "cs4"
    ∷ codes "cb4" ∷ codes "cx4" ∷ codes "h4" ∷ codes "c/" ∷ codes "cc" ∷ [])
    ≡ Some 12 ∷ Some 26 ∷ Some 40 ∷ Some 53 ∷ Some 67 ∷ Some 81 ∷ Some 95 ∷ Some 61 ∷ Some 59 ∷ None ∷ None ∷ None ∷ None ∷ []
letters = refl

-- decimal digits
number_of_four_digits : map decimal (codes "1024" ∷ codes "007" ∷ codes "999999999" ∷ []) ≡ 1024 ∷ 7 ∷ 999999999 ∷ []
number_of_four_digits = refl

-- the words of the language
words_of_the_language : map spelling keywords
    ≡ codes "formula" ∷ codes "seed" ∷ codes "shape" ∷ codes "flat" ∷ codes "by" ∷ codes "slope" ∷
    codes "to" ∷ codes "pause" ∷ codes "breath" ∷ codes "ticks" ∷ codes "phrase" ∷ codes "note" ∷
    codes "play" ∷ codes "rest" ∷ codes "skip" ∷ codes "control" ∷ codes "program" ∷ codes "bend" ∷
    codes "set" ∷ codes "if" ∷ codes "else" ∷ codes "repeat" ∷ codes "max" ∷ codes "do" ∷ codes "par" ∷
    codes "branch" ∷ codes "warp" ∷ codes "channel" ∷ codes "volume" ∷ codes "gate" ∷ codes "rhythm" ∷
    codes "artic" ∷ codes "loud" ∷ codes "key" ∷ codes "pick" ∷ codes "min" ∷ codes "less" ∷ codes "same" ∷ []
words_of_the_language = refl

data Seen : Type 0 where
  seen : Kind → ℕ → ℕ → Seen
  bad_byte : ℕ → ℕ → Seen
  bad_number : ℕ → ℕ → Seen

abbrev fault_seen : LexFault → Seen
fault_seen (BadByte s) = bad_byte s.line s.column
fault_seen (BadNumber s) = bad_number s.line s.column

-- a token without its text
abbrev shown : Lexed → Seen
shown (Ok t) = seen t.kind t.spot.line t.spot.column
shown (Err f) = fault_seen f

-- the tokens of one line
abbrev tokens_of : List ℕ → List Seen
tokens_of text = map shown (tokens text)

words : tokens_of (codes "a_1 r8 n16 bb3 c10")
    ≡ seen Name 1 1 ∷ seen Name 1 5 ∷ seen Name 1 8 ∷ seen (Pitch 58) 1 12 ∷ seen Name 1 16 ∷ seen End 1 19 ∷ []
unfolding walk
words = refl

letter_behind_digits : tokens_of (codes "12x") ≡ bad_number 1 1 ∷ []
unfolding walk
letter_behind_digits = refl

capital : tokens_of (codes "formula 1; Note")
    ≡ seen (kinds.Keyword Formula) 1 1 ∷ seen (Number 1) 1 9 ∷ seen (Symbol 59) 1 10 ∷ bad_byte 1 12 ∷ []
unfolding walk
capital = refl

letter_behind_version : tokens_of (codes "formula 1x;") ≡ seen (kinds.Keyword Formula) 1 1 ∷ bad_number 1 9 ∷ []
unfolding walk
letter_behind_version = refl

ten_digits : tokens_of (codes "000000001 0000000001") ≡ seen (Number 1) 1 1 ∷ bad_number 1 11 ∷ []
unfolding walk
ten_digits = refl

capital_behind_digits : tokens_of (codes "note 5A")
    ≡ seen (kinds.Keyword Note) 1 1 ∷ seen (Number 5) 1 6 ∷ bad_byte 1 7 ∷ []
unfolding walk
capital_behind_digits = refl

pitches : tokens_of (codes "a0 b1 bb3 cs4 c4 g9 gs9 cb0")
    ≡ seen (Pitch 21) 1 1 ∷ seen (Pitch 35) 1 4 ∷ seen (Pitch 58) 1 7 ∷ seen (Pitch 61) 1 11
    ∷ seen (Pitch 60) 1 15 ∷ seen (Pitch 127) 1 18 ∷ seen (Pitch 128) 1 21 ∷ seen (Pitch 11) 1 25 ∷ seen End 1 28 ∷ []
unfolding walk
pitches = refl

names : tokens_of (codes "n00 n16 bb cs division keys")
    ≡ seen Name 1 1 ∷ seen Name 1 5 ∷ seen Name 1 9 ∷ seen Name 1 12 ∷ seen Name 1 15 ∷ seen Name 1 24 ∷ seen End 1 28 ∷ []
unfolding walk
names = refl

variables : tokens_of (codes "r0 r7 n0 n9 n10 n15 key min")
    ≡ seen (Register 0) 1 1 ∷ seen (Register 7) 1 4 ∷ seen (Index 0) 1 7 ∷ seen (Index 9) 1 10 ∷ seen (Index 10) 1 13
    ∷ seen (Index 15) 1 17 ∷ seen (kinds.Keyword Key) 1 21 ∷ seen (kinds.Keyword Min) 1 25 ∷ seen End 1 28 ∷ []
unfolding walk
variables = refl

-- the end stands behind the last byte: of a comment, of a line end, of a carriage return
ends_in_comment : tokens_of (codes "r7 # x;" ++ 10 ∷ codes "n1#y") ≡ seen (Register 7) 1 1 ∷ seen (Index 1) 2 1 ∷ seen End 2 5 ∷ []
unfolding walk
ends_in_comment = refl

ends_in_line : tokens_of (codes "n1" ++ 13 ∷ 10 ∷ []) ≡ seen (Index 1) 1 1 ∷ seen End 2 1 ∷ []
unfolding walk
ends_in_line = refl

ends_in_return : tokens_of (codes "n1" ++ 9 ∷ 13 ∷ []) ≡ seen (Index 1) 1 1 ∷ seen End 1 5 ∷ []
unfolding walk
ends_in_return = refl

nothing : tokens_of [] ≡ seen End 1 1 ∷ []
unfolding walk
nothing = refl

-- spots as they are written, the greatest of 32 bits among them
spots_written :
    map spot_text
    (record { line = 1; column = 1 } ∷ record { line = 12; column = 305 }
    ∷ record { line = 1000; column = 4294967295 } ∷ [])
    ≡ codes "1:1" ∷ codes "12:305" ∷ codes "1000:4294967295" ∷ []
unfolding digits
spots_written = refl
