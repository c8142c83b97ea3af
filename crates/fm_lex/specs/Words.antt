-- What a word is: a keyword, a register, a loop index, a pitch, or a name.
use Rattle.std.specs.Prelude.{ℕ, ◌+◌, ◌-◌, ◌*◌, ◌&&◌, ◌==◌, if◌then◌else◌, nat_le, find, bytes_eq, codes, List, [], ◌∷◌, Option, Some, None}
use Rattle.fm_lex.specs.declared.keyword.Keyword.{Keyword}
use Rattle.fm_lex.specs.declared.keyword.Keyword.TheVariants.{Formula, Seed, Shape, Flat, By, Slope, To, Pause, Breath, Ticks, Phrase, Note, Play, Rest, Skip, Control, Program, Bend, Set, If, Else, Repeat, Max, Do, Par, Branch, Warp, Channel, Volume, Gate, Rhythm, Artic, Loud, Key, Pick, Min, Less, Same}
use Rattle.fm_lex.specs.declared.kind.Kind.{Kind}
use Rattle.fm_lex.specs.declared.kind.Kind.TheVariants.{Name, Pitch, Register, Index}
use Rattle.fm_lex.specs.declared.kind.Kind.TheVariants as kinds
use Rattle.fm_lex.specs.Bytes.{is_digit}

-- how a keyword is spelt
abbrev pub spelling : Keyword → List ℕ
spelling Formula = codes "formula"
spelling Seed = codes "seed"
spelling Shape = codes "shape"
spelling Flat = codes "flat"
spelling By = codes "by"
spelling Slope = codes "slope"
spelling To = codes "to"
spelling Pause = codes "pause"
spelling Breath = codes "breath"
spelling Ticks = codes "ticks"
spelling Phrase = codes "phrase"
spelling Note = codes "note"
spelling Play = codes "play"
spelling Rest = codes "rest"
spelling Skip = codes "skip"
spelling Control = codes "control"
spelling Program = codes "program"
spelling Bend = codes "bend"
spelling Set = codes "set"
spelling If = codes "if"
spelling Else = codes "else"
spelling Repeat = codes "repeat"
spelling Max = codes "max"
spelling Do = codes "do"
spelling Par = codes "par"
spelling Branch = codes "branch"
spelling Warp = codes "warp"
spelling Channel = codes "channel"
spelling Volume = codes "volume"
spelling Gate = codes "gate"
spelling Rhythm = codes "rhythm"
spelling Artic = codes "artic"
spelling Loud = codes "loud"
spelling Key = codes "key"
spelling Pick = codes "pick"
spelling Min = codes "min"
spelling Less = codes "less"
spelling Same = codes "same"

-- the keywords
abbrev pub keywords : List Keyword
keywords =
    Formula ∷ Seed ∷ Shape ∷ Flat ∷ By ∷ Slope ∷ To ∷ Pause ∷ Breath ∷ Ticks ∷ Phrase ∷ Note ∷ Play ∷ Rest ∷
    Skip ∷ Control ∷ Program ∷ Bend ∷ Set ∷ If ∷ Else ∷ Repeat ∷ Max ∷ Do ∷ Par ∷ Branch ∷ Warp ∷ Channel ∷
    Volume ∷ Gate ∷ Rhythm ∷ Artic ∷ Loud ∷ Key ∷ Pick ∷ Min ∷ Less ∷ Same ∷ []

-- the keyword that a word spells
abbrev pub keyword_of : List ℕ → Option Keyword
keyword_of w = find (λ k. bytes_eq (spelling k) w) keywords

-- r0 to r7
abbrev pub register_of : List ℕ → Option ℕ
register_of (x ∷ y ∷ []) = if (x == 114) && (nat_le 48 y && nat_le y 55) then Some (y - 48) else None
register_of w = None

-- n0 to n15, without leading zeros
abbrev pub index_of : List ℕ → Option ℕ
index_of (x ∷ y ∷ []) = if (x == 110) && is_digit y then Some (y - 48) else None
index_of (x ∷ y ∷ z ∷ []) =
    if (x == 110) && ((y == 49) && (nat_le 48 z && nat_le z 53)) then Some (10 + (z - 48)) else None
index_of w = None

-- the semitones of a letter above c
abbrev pub degree_of : ℕ → Option ℕ
degree_of x =
    if x == 99 then Some 0 else if x == 100 then Some 2 else if x == 101 then Some 4 else if x == 102 then Some 5
    else if x == 103 then Some 7 else if x == 97 then Some 9 else if x == 98 then Some 11 else None

-- the key of a degree in the octave that a digit names; c4 is 60, and the digit 0 is 48
abbrev pub key_of : Option ℕ → ℕ → Option ℕ
key_of None o = None
key_of (Some degree) o = if is_digit o then Some (12 * ((o - 48) + 1) + degree) else None

-- a key, some semitones higher
abbrev pub sharpened : Option ℕ → Option ℕ
sharpened None = None
sharpened (Some key) = Some (key + 1)

-- a key, a semitone lower
abbrev pub flattened : Option ℕ → Option ℕ
flattened None = None
flattened (Some key) = Some (key - 1)

-- a letter a to g, then nothing, s (sharp) or b (flat), then an octave
abbrev pub pitch_of : List ℕ → Option ℕ
pitch_of (x ∷ o ∷ []) = key_of (degree_of x) o
pitch_of (x ∷ m ∷ o ∷ []) =
    if m == 115 then sharpened (key_of (degree_of x) o)
    else if m == 98 then flattened (key_of (degree_of x) o)
    else None
pitch_of w = None

-- the kind that an answer makes, or else the next one
abbrev pub kind_or : {A : Type 0} → (A → Kind) → Option A → Kind → Kind
kind_or kind None other = other
kind_or kind (Some x) other = kind x

-- the kind of a word
abbrev pub word_kind : List ℕ → Kind
word_kind w =
    kind_or kinds.Keyword (keyword_of w)
    (kind_or Register (register_of w) (kind_or Index (index_of w) (kind_or Pitch (pitch_of w) Name)))
