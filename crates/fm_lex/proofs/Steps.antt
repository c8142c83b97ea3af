-- The walk over words, and over the first byte of a token.
use Rattle.std.proofs.Common.{◌≡◌, ℕ, suc, ◌+◌, ◌≤◌, Bool, true, false, ◌==◌, List, [], ◌∷◌, length, drop, Ok, Err, refl, arith, add-zero, add_assoc}
use Rattle.std.specs.Prelude.{if◌then◌else◌}
use Rattle.std.specs.List.{prefix_len}
use Rattle.std.proofs.lemmas.Bool.Decides.{nat_tests}
use Rattle.std.proofs.lemmas.List.Sums.{prefix_len-le-length}
use Rattle.fm_lex.specs.declared.spot.Spot.{Spot}
use Rattle.fm_lex.specs.Bytes.{is_digit, in_word, is_blank, after_byte}
use Rattle.fm_lex.specs.Tokens.{Lexed, Mode, lexed_at, begins_word, between, comment, inside, then_more, walk_between, walk_byte, walk, advanced}
use Rattle.fm_lex.specs.Room.{BeginsToken}

-- a run of bytes is no longer than the text
pub run_within : (test : ℕ → Bool) (xs : List ℕ) → prefix_len test xs ≤ length xs
run_within test xs = prefix_len-le-length test xs

-- some bytes further on in the same line
abbrev pub moved : Spot → ℕ → Spot
moved s n = record { line = s.line; column = s.column + n }

-- no byte further on
pub moved-zero : (s : Spot) → moved s 0 ≡ s
moved-zero s = rw add-zero refl

moved-moved : (s : Spot) (m n : ℕ) → moved (moved s m) n ≡ moved s (m + n)
moved-moved s m n = rw add_assoc refl

-- a byte of a word ends no line
pub word_in_line : (x : ℕ) (s : Spot) → in_word x ≡ true → after_byte x s ≡ moved s 1
word_in_line x s is = let differs : (x == 10) ≡ false = grind (arith, nat_tests) in rw differs refl

drop-one : (n x : ℕ) (xs : List ℕ) → drop (1 + n) (x ∷ xs) ≡ drop n xs
drop-one n x xs = let up : 1 + n ≡ suc n = omega arith in rw up refl

-- a byte of a word goes on with it
pub inside-more : (s : Spot) (x : ℕ) (xs : List ℕ) → in_word x ≡ true → walk inside s (x ∷ xs) ≡ walk inside (moved s 1) xs
unfolding walk
inside-more s x xs is = rw (is, word_in_line x s is) refl

-- and another byte ends it
pub inside-ends : (s : Spot) (x : ℕ) (xs : List ℕ) → in_word x ≡ false → walk inside s (x ∷ xs) ≡ walk between s (x ∷ xs)
unfolding walk
inside-ends s x xs is = rw is refl

word_on : (s : Spot) (x : ℕ) (xs : List ℕ) (b : Bool) → in_word x ≡ b
    → walk inside (moved s 1) xs
    ≡ walk between (moved (moved s 1) (prefix_len in_word xs)) (drop (prefix_len in_word xs) xs)
    → walk inside s (x ∷ xs)
    ≡ walk between (moved s (prefix_len in_word (x ∷ xs))) (drop (prefix_len in_word (x ∷ xs)) (x ∷ xs))
word_on s x xs true is on =
    rw (inside-more s x xs is, on, is, drop-one, moved-moved) refl
word_on s x xs false is on = rw (inside-ends s x xs is, is, moved-zero s) refl

-- what is left of a word is passed over
pub walk-inside : (s : Spot) (xs : List ℕ)
    → walk inside s xs ≡ walk between (moved s (prefix_len in_word xs)) (drop (prefix_len in_word xs) xs)
unfolding walk
walk-inside s [] = rw (moved-zero s) refl
walk-inside s (x ∷ xs) = word_on s x xs (in_word x) refl (walk-inside (moved s 1) xs)

-- a digit belongs to a word
pub digit_in_word : (x : ℕ) → is_digit x ≡ true → in_word x ≡ true
digit_in_word x is = grind (arith, nat_tests)

digit_on : (x : ℕ) (xs : List ℕ) (b : Bool) → is_digit x ≡ b
    → begins_word (drop (prefix_len is_digit (x ∷ xs)) (x ∷ xs)) ≡ false
    → (begins_word (drop (prefix_len is_digit xs) xs) ≡ false → prefix_len in_word xs ≡ prefix_len is_digit xs)
    → prefix_len in_word (x ∷ xs) ≡ prefix_len is_digit (x ∷ xs)
digit_on x xs true is none on =
    let later : begins_word (drop (prefix_len is_digit xs) xs) ≡ false = rw (is, drop-one) at none in
    rw (digit_in_word x is, is, on later) refl
digit_on x xs false is none on = let other : in_word x ≡ false = rw is at none in rw (other, is) refl

-- digits with no letter behind them are as long as the word that they begin
pub word_of_digits : (xs : List ℕ) → begins_word (drop (prefix_len is_digit xs) xs) ≡ false
    → prefix_len in_word xs ≡ prefix_len is_digit xs
word_of_digits [] none = refl
word_of_digits (x ∷ xs) none = digit_on x xs (is_digit x) refl none (word_of_digits xs)

-- a token is then_more first
then_more-head : (t : Lexed) (more : List Lexed) → then_more t more ≡ t ∷ drop 1 (then_more t more)
then_more-head (Ok t) more = refl
then_more-head (Err f) more = refl

-- and where more follows it, it is left behind
pub advanced-cons : (t : Lexed) (more : List Lexed) → 1 ≤ length more → advanced (t ∷ more) ≡ more
advanced-cons t [] some = absurd (omega arith)
advanced-cons t (u ∷ us) some = refl

-- the first byte of a token lists that token
pub walk-then_more : (s : Spot) (x : ℕ) (xs : List ℕ) → BeginsToken (x ∷ xs)
    → walk between s (x ∷ xs)
    ≡ then_more (lexed_at s (x ∷ xs)) (walk (if in_word x then inside else between) (after_byte x s) xs)
unfolding walk
walk-then_more s x xs begins = rw (begins.0, begins.1) refl

-- the walk gives what its text begins with
pub walk-gives : (s : Spot) (xs : List ℕ) → BeginsToken xs
    → walk between s xs ≡ lexed_at s xs ∷ drop 1 (walk between s xs)
unfolding walk
walk-gives s [] begins = refl
walk-gives s (x ∷ xs) begins = rw (walk-then_more s x xs begins) (then_more-head (lexed_at s (x ∷ xs)) _)

-- a walk never comes to nothing
listed_goes : (t : Lexed) (more : List Lexed) → 1 ≤ length (then_more t more)
listed_goes (Ok t) more = omega arith
listed_goes (Err f) more = omega arith

between_goes : (x : ℕ) (xs : List ℕ) (s : Spot) (go : Mode → List Lexed) → ((mode : Mode) → 1 ≤ length (go mode))
    → 1 ≤ length (walk_between x xs s go)
between_goes x xs s go goes =
    elim (is_blank x) as
    (λ b. 1 ≤ length (if b then go between else if x == 35 then go comment else then_more (lexed_at s (x ∷ xs))
    (go (if in_word x then inside else between)))) [
      | true ↦ goes between
      | false ↦ elim (x == 35) as
          (λ b. 1 ≤ length (if b then go comment else then_more (lexed_at s (x ∷ xs)) (go (if in_word x then inside else between))))
          [ true ↦ goes comment | false ↦ listed_goes (lexed_at s (x ∷ xs)) _ ]
    ]

byte_goes : (mode : Mode) (x : ℕ) (xs : List ℕ) (s : Spot) (go : Mode → List Lexed)
    → ((mode : Mode) → 1 ≤ length (go mode)) → 1 ≤ length (walk_byte mode x xs s go)
byte_goes between x xs s go goes = between_goes x xs s go goes
byte_goes comment x xs s go goes =
    elim (x == 10) as (λ b. 1 ≤ length (if b then go between else go comment)) [ true ↦ goes between | false ↦ goes comment ]
byte_goes inside x xs s go goes =
    elim (in_word x) as (λ b. 1 ≤ length (if b then go inside else walk_between x xs s go))
    [ true ↦ goes inside | false ↦ between_goes x xs s go goes ]

-- a walk never comes to nothing
pub walk_goes : (mode : Mode) (s : Spot) (xs : List ℕ) → 1 ≤ length (walk mode s xs)
unfolding walk
walk_goes mode s [] = omega arith
walk_goes mode s (x ∷ xs) = byte_goes mode x xs s (λ next. walk next (after_byte x s) xs) (λ next. walk_goes next (after_byte x s) xs)
