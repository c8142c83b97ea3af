-- The tokens of a text, as one walk over its bytes.
use Rattle.std.specs.Prelude.{ℕ, Bool, false, ◌||◌, ◌==◌, if◌then◌else◌, nat_lt, take_while, List, [], ◌∷◌, length, Result, Ok, Err}
use Rattle.fm_lex.specs.declared.spot.Spot.{Spot}
use Rattle.fm_lex.specs.declared.kind.Kind.{Kind}
use Rattle.fm_lex.specs.declared.kind.Kind.TheVariants.{Number, Symbol, End}
use Rattle.fm_lex.specs.declared.token.LexFault.{LexFault}
use Rattle.fm_lex.specs.declared.token.LexFault.TheVariants.{BadByte, BadNumber}
use Rattle.fm_lex.specs.declared.token.Token.{Token}
use Rattle.fm_lex.specs.Bytes.{is_digit, is_letter, in_word, is_blank, is_symbol, decimal, past, first_spot, after_byte}
use Rattle.fm_lex.specs.Words.{word_kind}

-- a token as plain data: its kind, its bytes, and the spot of the first one
pub record Lexeme : Type 0 where
  pub kind : Kind
  pub text : List ℕ
  pub spot : Spot

-- what is read at a place: a token, or the fault with which the reading ends
abbrev pub Lexed : Type 0
Lexed = Result Lexeme LexFault

-- what a token of the code stands for
abbrev pub lexeme_of : Token → Lexeme
lexeme_of t = record { kind = t.kind; text = t.text.now; spot = t.spot }

-- what an answer of the code stands for
abbrev pub lexed_of : Result Token LexFault → Lexed
lexed_of (Ok t) = Ok (lexeme_of t)
lexed_of (Err f) = Err f

-- the bytes that were read
abbrev pub text_of : Lexed → List ℕ
text_of (Ok t) = t.text
text_of (Err f) = []

-- a token of a kind
abbrev pub token : Kind → List ℕ → Spot → Lexed
token k t s = Ok (record { kind = k; text = t; spot = s })

-- the most digits of a number
abbrev pub most_digits : ℕ
most_digits = 9

-- whether a letter, a digit or _ comes first
abbrev pub begins_word : List ℕ → Bool
begins_word [] = false
begins_word (x ∷ xs) = in_word x

-- a number, or the fault that it has too many digits or a letter behind them
abbrev pub number_from : List ℕ → List ℕ → Spot → Lexed
number_from digits later s =
    if nat_lt most_digits (length digits) || begins_word later then Err (BadNumber s)
    else token (Number (decimal digits)) digits s

-- what a text begins with, where that is no blank and no comment
abbrev pub lexed_at : Spot → List ℕ → Lexed
lexed_at s [] = token End [] s
lexed_at s (x ∷ xs) =
    if is_letter x then token (word_kind (take_while in_word (x ∷ xs))) (take_while in_word (x ∷ xs)) s
    else if is_digit x then number_from (take_while is_digit (x ∷ xs)) (past is_digit (x ∷ xs)) s
    else if is_symbol x then token (Symbol x) (x ∷ []) s
    else Err (BadByte s)

-- where the walk is: between tokens, inside a comment, or inside a word or a number
pub data Mode : Type 0 where
  between : Mode
  comment : Mode
  inside : Mode

-- a token and what follows it; behind a fault nothing follows
abbrev pub then_more : Lexed → List Lexed → List Lexed
then_more (Ok t) more = Ok t ∷ more
then_more (Err f) more = Err f ∷ []

-- a byte between tokens: the first one of a token gives that token
abbrev pub walk_between : ℕ → List ℕ → Spot → (Mode → List Lexed) → List Lexed
walk_between x xs s go =
    if is_blank x then go between
    else if x == 35 then go comment
    else then_more (lexed_at s (x ∷ xs)) (go (if in_word x then inside else between))

-- a byte in each mode; a comment ends before a line feed, a word and a number before another byte than theirs
abbrev pub walk_byte : Mode → ℕ → List ℕ → Spot → (Mode → List Lexed) → List Lexed
walk_byte between x xs s go = walk_between x xs s go
walk_byte comment x xs s go = if x == 10 then go between else go comment
walk_byte inside x xs s go = if in_word x then go inside else walk_between x xs s go

-- the tokens of what is left of a text, from a spot on
unfoldable pub walk : Mode → Spot → List ℕ → List Lexed
walk mode s [] = token End [] s ∷ []
walk mode s (x ∷ xs) = walk_byte mode x xs s (λ next. walk next (after_byte x s) xs)

-- the tokens of a text, to its end or to its first fault
abbrev pub tokens : List ℕ → List Lexed
tokens text = walk between first_spot text

-- a list without its first entry; the last entry stays
abbrev pub advanced : List Lexed → List Lexed
advanced [] = []
advanced (t ∷ []) = t ∷ []
advanced (t ∷ u ∷ us) = u ∷ us
