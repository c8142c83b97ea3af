-- What is read at a byte that begins a token: a fault, a run of a word's bytes, or a symbol.
use Rattle.std.proofs.Common.{◌≡◌, ℕ, Bool, true, false, ◌==◌, ◌||◌, List, [], ◌∷◌, length, take, Option, Some, None, Ok, Err, refl, sym, ap, ◌∙◌, arith}
use Rattle.std.specs.Prelude.{nat_lt, not, ◌&&◌, codes}
use Rattle.std.specs.List.{prefix_len, take_while, list_all}
use Rattle.std.proofs.lemmas.Bool.Decides.{nat_tests}
use Rattle.fm_lex.specs.declared.spot.Spot.{Spot}
use Rattle.fm_lex.specs.declared.kind.Kind.{Kind}
use Rattle.fm_lex.specs.declared.token.LexFault.{LexFault}
use Rattle.fm_lex.specs.declared.token.LexFault.TheVariants.{BadByte, BadNumber}
use Rattle.fm_lex.specs.declared.kind.Kind.TheVariants.{Name, Number, Pitch, Register, Index, Symbol}
use Rattle.fm_lex.specs.declared.kind.Kind.TheVariants as kinds
use Rattle.fm_lex.specs.declared.keyword.Keyword.{Keyword}
use Rattle.fm_lex.specs.Words.{kind_or, keyword_of, register_of, index_of, pitch_of, word_kind}
use Rattle.fm_lex.specs.Bytes.{is_digit, is_letter, in_word, is_symbol, one_of, past, decimal}
use Rattle.fm_lex.specs.Tokens.{Lexeme, most_digits, token, number_from, lexed_at, begins_word}
use Rattle.fm_lex.specs.Layout.{is_end}
use Rattle.fm_lex.proofs.Steps.{digit_in_word, word_of_digits}

-- a letter belongs to a word, and a symbol to none
letter_in_word : (x : ℕ) → is_letter x ≡ true → in_word x ≡ true
letter_in_word x is = grind (arith, nat_tests)

one_outside : (x y : ℕ) (ys : List ℕ) (b : Bool) → (x == y) ≡ b
    → (not (in_word y) && list_all (λ z. not (in_word z)) ys) ≡ true → one_of x (y ∷ ys) ≡ true
    → (list_all (λ z. not (in_word z)) ys ≡ true → one_of x ys ≡ true → in_word x ≡ false)
    → in_word x ≡ false
one_outside x y ys true same apart found on =
    let is : x ≡ y = grind (arith, nat_tests) in
    let here : in_word y ≡ false = grind (arith, nat_tests) in
    rw is here
one_outside x y ys false same apart found on =
    on (grind (arith, nat_tests)) (rw same at found)

one_of_outside : (x : ℕ) (ys : List ℕ) → list_all (λ y. not (in_word y)) ys ≡ true → one_of x ys ≡ true
    → in_word x ≡ false
one_of_outside x [] apart found = cc
one_of_outside x (y ∷ ys) apart found = one_outside x y ys (x == y) refl apart found (one_of_outside x ys)

symbol_outside : (x : ℕ) → is_symbol x ≡ true → in_word x ≡ false
symbol_outside x symbol = one_of_outside x (codes ";{}()[],=/+-*%") refl symbol

-- what is read where a digit stands
lexed-digit : (s : Spot) (x : ℕ) (xs : List ℕ) → is_letter x ≡ false → is_digit x ≡ true
    → lexed_at s (x ∷ xs) ≡ number_from (take_while is_digit (x ∷ xs)) (past is_digit (x ∷ xs)) s
lexed-digit s x xs letter digit = rw (letter, digit) refl

-- and where a letter stands
lexed-letter : (s : Spot) (x : ℕ) (xs : List ℕ) → is_letter x ≡ true
    → lexed_at s (x ∷ xs) ≡ token (word_kind (take_while in_word (x ∷ xs))) (take_while in_word (x ∷ xs)) s
lexed-letter s x xs letter = rw letter refl

neither : (a b : Bool) → (a || b) ≡ false → b ≡ false
neither false b none = none
neither true b none = cc

-- no word is the end
else_goes_on : {A : Type 0} (kind : A → Kind) (found : Option A) (other : Kind)
    → ((x : A) → is_end (kind x) ≡ false) → is_end other ≡ false → is_end (kind_or kind found other) ≡ false
else_goes_on kind None other here there = there
else_goes_on kind (Some x) other here there = here x

word_goes_on : (w : List ℕ) → is_end (word_kind w) ≡ false
word_goes_on w =
    let pitch : Kind = kind_or Pitch (pitch_of w) Name in
    let index : Kind = kind_or Index (index_of w) pitch in
    let register : Kind = kind_or Register (register_of w) index in
    else_goes_on kinds.Keyword (keyword_of w) register (λ (k : Keyword). refl)
    (else_goes_on Register (register_of w) index (λ (k : ℕ). refl)
    (else_goes_on Index (index_of w) pitch (λ (k : ℕ). refl)
    (else_goes_on Pitch (pitch_of w) Name (λ (k : ℕ). refl) refl)))

-- ---- the three cases

-- a token of the longest run of a word's bytes
pub record IsRun (s : Spot) (x : ℕ) (xs : List ℕ) (t : Lexeme) : Type 0 where
  pub read : lexed_at s (x ∷ xs) ≡ Ok t
  pub first : in_word x ≡ true
  pub text : t.text ≡ take (prefix_len in_word (x ∷ xs)) (x ∷ xs)
  pub goes_on : is_end t.kind ≡ false

-- a token of one byte, of no word
pub record IsSign (s : Spot) (x : ℕ) (xs : List ℕ) (t : Lexeme) : Type 0 where
  pub read : lexed_at s (x ∷ xs) ≡ Ok t
  pub first : in_word x ≡ false
  pub text : t.text ≡ x ∷ []
  pub goes_on : is_end t.kind ≡ false

-- what is read
pub data Case (s : Spot) (x : ℕ) (xs : List ℕ) : Type 0 where
  fault : (f : LexFault) → lexed_at s (x ∷ xs) ≡ Err f → Case s x xs
  run : (t : Lexeme) → IsRun s x xs t → Case s x xs
  sign : (t : Lexeme) → IsSign s x xs t → Case s x xs

digit_case : (s : Spot) (x : ℕ) (xs : List ℕ) (b : Bool) → is_letter x ≡ false → is_digit x ≡ true
    → (nat_lt most_digits (length (take_while is_digit (x ∷ xs))) || begins_word (past is_digit (x ∷ xs))) ≡ b
    → Case s x xs
digit_case s x xs true letter digit spoilt =
    fault (BadNumber s) (lexed-digit s x xs letter digit ∙ rw spoilt refl)
digit_case s x xs false letter digit spoilt =
    let digits : List ℕ = take_while is_digit (x ∷ xs) in
    let same : prefix_len in_word (x ∷ xs) ≡ prefix_len is_digit (x ∷ xs) = word_of_digits (x ∷ xs) (neither _ _ spoilt) in
    run (record { kind = Number (decimal digits); text = digits; spot = s }) (record {
      read = lexed-digit s x xs letter digit ∙ rw spoilt refl;
      first = digit_in_word x digit;
      text = ap (λ (n : ℕ). take n (x ∷ xs)) (sym same);
      goes_on = refl;
    })

letter_case : (s : Spot) (x : ℕ) (xs : List ℕ) → is_letter x ≡ true → Case s x xs
letter_case s x xs letter =
    let word : List ℕ = take_while in_word (x ∷ xs) in
    run (record { kind = word_kind word; text = word; spot = s }) (record {
      read = lexed-letter s x xs letter;
      first = letter_in_word x letter;
      text = refl;
      goes_on = word_goes_on word;
    })

other_case : (s : Spot) (x : ℕ) (xs : List ℕ) (b : Bool) → is_letter x ≡ false → is_digit x ≡ false
    → is_symbol x ≡ b → Case s x xs
other_case s x xs true letter digit symbol =
    sign (record { kind = Symbol x; text = x ∷ []; spot = s }) (record {
      read = rw (letter, digit, symbol) refl;
      first = symbol_outside x symbol;
      text = refl;
      goes_on = refl;
    })
other_case s x xs false letter digit symbol = fault (BadByte s) (rw (letter, digit, symbol) refl)

unlettered_case : (s : Spot) (x : ℕ) (xs : List ℕ) (b : Bool) → is_letter x ≡ false → is_digit x ≡ b → Case s x xs
unlettered_case s x xs true letter digit =
    digit_case s x xs (nat_lt most_digits (length (take_while is_digit (x ∷ xs))) || begins_word (past is_digit (x ∷ xs))) letter digit
    refl
unlettered_case s x xs false letter digit = other_case s x xs (is_symbol x) letter digit refl

byte_case : (s : Spot) (x : ℕ) (xs : List ℕ) (b : Bool) → is_letter x ≡ b → Case s x xs
byte_case s x xs true letter = letter_case s x xs letter
byte_case s x xs false letter = unlettered_case s x xs (is_digit x) letter refl

-- one of the three cases holds
pub read_case : (s : Spot) (x : ℕ) (xs : List ℕ) → Case s x xs
read_case s x xs = byte_case s x xs (is_letter x) refl
