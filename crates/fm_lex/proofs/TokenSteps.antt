-- One token on: the walk goes on behind the token that its text begins with.
use Rattle.std.proofs.Common.{◌≡◌, ℕ, ◌+◌, ◌-◌, false, ◌==◌, List, [], ◌∷◌, length, length-drop, drop, take, Ok, Err, refl, sym, ap, ◌∙◌, arith}
use Rattle.std.specs.List.{prefix_len}
use Rattle.std.proofs.lemmas.Bool.Decides.{nat_tests}
use Rattle.std.proofs.lemmas.List.{take_all}
use Rattle.std.proofs.lemmas.List.Folds.{length-prefix_len}
use Rattle.fm_lex.specs.declared.spot.Spot.{Spot}
use Rattle.fm_lex.specs.declared.token.LexFault.{LexFault}
use Rattle.fm_lex.specs.Bytes.{in_word, is_blank, after_byte}
use Rattle.fm_lex.specs.Tokens.{Lexeme, text_of, lexed_at, between, inside, walk, advanced}
use Rattle.fm_lex.specs.Room.{BeginsToken}
use Rattle.fm_lex.proofs.Steps.{moved, moved-zero, walk-inside, inside-more, word_in_line, walk-then_more, walk_goes, advanced-cons}
use Rattle.fm_lex.proofs.Reading.{IsRun, IsSign, Case, fault, run, sign, read_case}

-- the walk from behind a text is the walk from before it, one token on
abbrev Behind : Spot → List ℕ → List ℕ → Type 0
Behind s xs text = walk between (moved s (length text)) (drop (length text) xs) ≡ advanced (walk between s xs)

behind_end : (s : Spot) → Behind s [] []
unfolding walk
behind_end s = rw (moved-zero s) refl

-- behind a fault the walk stays
behind_fault : (s : Spot) (x : ℕ) (xs : List ℕ) (f : LexFault) → BeginsToken (x ∷ xs)
    → lexed_at s (x ∷ xs) ≡ Err f → Behind s (x ∷ xs) []
behind_fault s x xs f begins is = rw (moved-zero s, walk-then_more s x xs begins, is) refl

-- behind a word or a number
behind_run : (s : Spot) (x : ℕ) (xs : List ℕ) (t : Lexeme) → BeginsToken (x ∷ xs)
    → IsRun s x xs t → Behind s (x ∷ xs) t.text
behind_run s x xs t begins is =
    let long : length t.text ≡ prefix_len in_word (x ∷ xs) = ap length is.text ∙ length-prefix_len in_word (x ∷ xs) in
    rw (
      long,
      ← walk-inside s (x ∷ xs),
      inside-more s x xs is.first,
      walk-then_more s x xs begins,
      is.read,
      is.first,
      word_in_line x s
          is.first,
    )
    (sym (advanced-cons (Ok t) (walk inside (moved s 1) xs) (walk_goes inside (moved s 1) xs)))

-- behind a symbol
behind_symbol : (s : Spot) (x : ℕ) (xs : List ℕ) (t : Lexeme) → BeginsToken (x ∷ xs)
    → IsSign s x xs t → Behind s (x ∷ xs) t.text
behind_symbol s x xs t begins is =
    let blank : is_blank x ≡ false = begins.0 in
    let differs : (x == 10) ≡ false = grind (arith, nat_tests) in
    let here : after_byte x s ≡ moved s 1 = rw differs refl in
    rw (is.text, walk-then_more s x xs begins, is.read, is.first, here)
    (sym (advanced-cons (Ok t) (walk between (moved s 1) xs) (walk_goes between (moved s 1) xs)))

behind_case : (s : Spot) (x : ℕ) (xs : List ℕ) → BeginsToken (x ∷ xs) → Case s x xs
    → Behind s (x ∷ xs) (text_of (lexed_at s (x ∷ xs)))
behind_case s x xs begins (fault f is) = rw is (behind_fault s x xs f begins is)
behind_case s x xs begins (run t is) = rw is.read (behind_run s x xs t begins is)
behind_case s x xs begins (sign t is) = rw is.read (behind_symbol s x xs t begins is)

-- one token on
walk-behind : (s : Spot) (xs : List ℕ) → BeginsToken xs → Behind s xs (text_of (lexed_at s xs))
walk-behind s [] begins = behind_end s
walk-behind s (x ∷ xs) begins = behind_case s x xs begins (read_case s x xs)

-- the same, with the end of the text written out as the code does
pub behind : (s : Spot) (xs : List ℕ) (n : ℕ) → BeginsToken xs → n ≡ length (text_of (lexed_at s xs))
    → walk between (record { line = s.line; column = s.column + n }) (take (length xs - n) (drop n xs))
    ≡ advanced (walk between s xs)
behind s xs n begins is =
    let whole : take (length xs - n) (drop n xs) ≡ drop n xs = take_all (length xs - n) (drop n xs) (omega (arith, length-drop n xs)) in
    rw (whole, is) (walk-behind s xs begins)
