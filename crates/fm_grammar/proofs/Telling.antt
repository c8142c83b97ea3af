-- A token's kind by the number that the table has for it.
use Rattle.std.proofs.Common.{◌≡◌, ℕ, Ok, refl, sym, ap, ◌∙◌, arith, slice_index_or}
use Rattle.fm_lex.specs.Tokens.{Lexeme}
use Rattle.fm_lex.specs.declared.kind.Kind.{Kind}
use Rattle.fm_lex.specs.declared.kind.Kind.TheVariants.{Name, Number, Pitch, Register, Index, Symbol, End}
use Rattle.fm_lex.specs.declared.kind.Kind.TheVariants as kinds
use Rattle.fm_lex.specs.declared.keyword.Keyword.{Keyword}
use Rattle.fm_lex.specs.declared.keyword.Keyword.TheVariants.{Formula, Seed, Shape, Flat, By, Slope, To, Pause, Breath, Ticks, Phrase, Note, Play, Rest, Skip, Control, Program, Bend, Set, If, Else, Repeat, Max, Do, Par, Branch, Warp, Channel, Volume, Gate, Rhythm, Artic, Loud, Key, Pick, Min, Less, Same}
use Rattle.fm_lex.specs.Words.{keywords}
use Rattle.fm_grammar.specs.Score.{Leaf}
use Rattle.fm_grammar.specs.Signs.{tok}
use Rattle.fm_grammar.specs.Rules.{keyword_code, kind_code, any_number, any_register, any_index, any_pitch}

-- the keyword of a number
abbrev keyword_at : ℕ → Keyword
keyword_at n = slice_index_or keywords n Formula

keyword_at-code : (w : Keyword) → keyword_at (keyword_code w) ≡ w
keyword_at-code Formula = refl
keyword_at-code Seed = refl
keyword_at-code Shape = refl
keyword_at-code Flat = refl
keyword_at-code By = refl
keyword_at-code Slope = refl
keyword_at-code To = refl
keyword_at-code Pause = refl
keyword_at-code Breath = refl
keyword_at-code Ticks = refl
keyword_at-code Phrase = refl
keyword_at-code Note = refl
keyword_at-code Play = refl
keyword_at-code Rest = refl
keyword_at-code Skip = refl
keyword_at-code Control = refl
keyword_at-code Program = refl
keyword_at-code Bend = refl
keyword_at-code Set = refl
keyword_at-code If = refl
keyword_at-code Else = refl
keyword_at-code Repeat = refl
keyword_at-code Max = refl
keyword_at-code Do = refl
keyword_at-code Par = refl
keyword_at-code Branch = refl
keyword_at-code Warp = refl
keyword_at-code Channel = refl
keyword_at-code Volume = refl
keyword_at-code Gate = refl
keyword_at-code Rhythm = refl
keyword_at-code Artic = refl
keyword_at-code Loud = refl
keyword_at-code Key = refl
keyword_at-code Pick = refl
keyword_at-code Min = refl
keyword_at-code Less = refl
keyword_at-code Same = refl

-- a kind that the number tells exactly
abbrev pub Tells : Kind → Type 0
Tells k = (j : Kind) → kind_code k ≡ kind_code j → j ≡ k

-- a keyword is told by its number
pub tells_keyword : (w : Keyword) → Tells (kinds.Keyword w)
tells_keyword w Name same = absurd (omega arith)
tells_keyword w (Number n) same = absurd (omega arith)
tells_keyword w (Pitch k) same = absurd (omega arith)
tells_keyword w (Register r) same = absurd (omega arith)
tells_keyword w (Index i) same = absurd (omega arith)
tells_keyword w End same = absurd (omega arith)
tells_keyword w (kinds.Keyword v) same =
    let codes : keyword_code w ≡ keyword_code v = omega arith in
    let words : w ≡ v = sym (keyword_at-code w) ∙ ap keyword_at codes ∙ keyword_at-code v in
    ap kinds.Keyword (sym words)
tells_keyword w (Symbol b) same = absurd (omega arith)

-- and a symbol
pub tells_symbol : (b : ℕ) → Tells (Symbol b)
tells_symbol b Name same = absurd (omega arith)
tells_symbol b (Number n) same = absurd (omega arith)
tells_symbol b (Pitch k) same = absurd (omega arith)
tells_symbol b (Register r) same = absurd (omega arith)
tells_symbol b (Index i) same = absurd (omega arith)
tells_symbol b End same = absurd (omega arith)
tells_symbol b (kinds.Keyword v) same = absurd (omega arith)
tells_symbol b (Symbol c) same = let bytes : c ≡ b = omega arith in ap Symbol bytes

-- and a name
pub tells_name : Tells Name
tells_name Name same = refl
tells_name (kinds.Keyword v) same = absurd (omega arith)
tells_name (Symbol c) same = absurd (omega arith)
tells_name j same = absurd (omega arith)

-- and the end
pub tells_end : Tells End
tells_end End same = refl
tells_end (kinds.Keyword v) same = absurd (omega arith)
tells_end (Symbol c) same = absurd (omega arith)
tells_end j same = absurd (omega arith)

-- any number, register, index or pitch
pub number_kind : (j : Kind) → kind_code any_number ≡ kind_code j → (n : ℕ) × (j ≡ Number n)
number_kind (Number n) same = (n, refl)
number_kind (kinds.Keyword v) same = absurd (omega arith)
number_kind (Symbol c) same = absurd (omega arith)
number_kind j same = absurd (omega arith)

-- any register
pub register_kind : (j : Kind) → kind_code any_register ≡ kind_code j → (n : ℕ) × (j ≡ Register n)
register_kind (Register n) same = (n, refl)
register_kind (kinds.Keyword v) same = absurd (omega arith)
register_kind (Symbol c) same = absurd (omega arith)
register_kind j same = absurd (omega arith)

-- any index
pub index_kind : (j : Kind) → kind_code any_index ≡ kind_code j → (n : ℕ) × (j ≡ Index n)
index_kind (Index n) same = (n, refl)
index_kind (kinds.Keyword v) same = absurd (omega arith)
index_kind (Symbol c) same = absurd (omega arith)
index_kind j same = absurd (omega arith)

-- any pitch
pub pitch_kind : (j : Kind) → kind_code any_pitch ≡ kind_code j → (n : ℕ) × (j ≡ Pitch n)
pitch_kind (Pitch n) same = (n, refl)
pitch_kind (kinds.Keyword v) same = absurd (omega arith)
pitch_kind (Symbol c) same = absurd (omega arith)
pitch_kind j same = absurd (omega arith)

-- the bytes and the spot of a token
abbrev pub leaf_of : Lexeme → Leaf
leaf_of t = record { text = t.text; spot = t.spot }

-- a token of a known kind
pub tok-leaf_of : (t : Lexeme) (k : Kind) → t.kind ≡ k → Ok t ≡ tok k (leaf_of t)
tok-leaf_of t k same = ap (λ (j : Kind). tok j (leaf_of t)) same
