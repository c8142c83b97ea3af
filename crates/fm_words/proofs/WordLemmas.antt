-- What clap's lexer sees in a word, by what the rules see.
use Rattle.std.proofs.Common.{◌≡◌, ◌==◌, ◌&&◌, ℕ, Bool, true, false, List, [], ◌∷◌, ◌++◌, Some, None, refl, ap, codes, cond, subst}
use Rattle.std.specs.Prelude.{slice_get}
use Rattle.std.specs.Char.{encode_utf8}
use Rattle.std.specs.List.{before_first}
use Rattle.std.specs.Str.{IsUtf8, bytes_eq, chars, encode_utf8_all}
use Rattle.std.proofs.lemmas.Str.{IsUtf8-past_char, encodes-chars}
use Rattle.std.proofs.lemmas.Bool.Decides.{Decides-eqb}
use Rattle.clap.specs.Lexer.{long_of, short_of}
use Rattle.fm_words.specs.Rules.{Word, behind_hyphens, is_dashed, is_equals, value_in}

-- a word that is no option
pub record IsPlain (word : Word) : Type 0 where
  pub dashes : bytes_eq word (codes "--") ≡ false
  pub long : long_of word ≡ None
  pub short : short_of word ≡ None

-- so are all but those with a hyphen before something
pub plain_word_is : (word : Word) → is_dashed word ≡ false → IsPlain word
plain_word_is [] plain = record { dashes = refl; long = refl; short = refl }
plain_word_is (byte ∷ []) plain = go (byte == 45) refl
  where
    go : (b : Bool) → (byte == 45) ≡ b → IsPlain (byte ∷ [])
    go true is = record { dashes = rw is refl; long = rw is refl; short = rw is refl }
    go false is = record { dashes = rw is refl; long = rw is refl; short = rw is refl }
plain_word_is (byte ∷ next ∷ bytes) plain = record { dashes = rw plain refl; long = rw plain refl; short = rw plain refl }

-- a word that goes on behind two hyphens
pub record IsLong (word text : Word) : Type 0 where
  pub dashes : bytes_eq word (codes "--") ≡ false
  pub long : long_of word ≡ Some (before_first is_equals text, value_in text)

-- its name and its value are those of the rules
pub long_word_is : (word text : Word) → behind_hyphens word ≡ Some text → IsLong word text
long_word_is [] text is = cc
long_word_is (a ∷ []) text is = cc
long_word_is (a ∷ b ∷ []) text is = cc
long_word_is (a ∷ b ∷ byte ∷ bytes) text is = go (a == 45) (b == 45) refl refl is
  where
    go : (first second : Bool) → (a == 45) ≡ first → (b == 45) ≡ second
        → cond (first && second) (Some (byte ∷ bytes)) None ≡ Some text → IsLong (a ∷ b ∷ byte ∷ bytes) text
    go true true first second is =
        let same : byte ∷ bytes ≡ text = cc in
        record {
          dashes = rw (first, second) refl;
          long = rw (first, second)
              (ap (λ (t : Word). Some (before_first is_equals t, value_in t)) same);
        }
    go true false first second is = cc
    go false second one two is = cc

-- a word with one hyphen before something else
pub record IsShort (word : Word) : Type 0 where
  pub dashes : bytes_eq word (codes "--") ≡ false
  pub long : long_of word ≡ None
  pub byte : ℕ
  pub bytes : Word
  pub short : short_of word ≡ Some (byte ∷ bytes)
  pub letter : ℕ
  pub first : slice_get (chars (byte ∷ bytes)) 0 ≡ Some letter

hyphen_first : (bytes : Word) → 45 ∷ bytes ≡ encode_utf8 45 ++ bytes
unfolding encode_utf8
hyphen_first bytes = refl

a_letter : (letters : List ℕ) (byte : ℕ) (bytes : Word) → encode_utf8_all letters ≡ byte ∷ bytes
    → (letter : ℕ) × (slice_get letters 0 ≡ Some letter)
a_letter [] byte bytes is = cc
a_letter (letter ∷ letters) byte bytes is = (letter, refl)

first_letter : (byte : ℕ) (bytes : Word) → IsUtf8 (45 ∷ byte ∷ bytes) → (letter : ℕ) × (slice_get (chars (byte ∷ bytes)) 0 ≡ Some letter)
first_letter byte bytes is =
    a_letter _ byte bytes (encodes-chars (byte ∷ bytes) (IsUtf8-past_char (45 ∷ byte ∷ bytes) (byte ∷ bytes) 45 is
    (hyphen_first (byte ∷ bytes))))

-- a text with one hyphen has a letter behind it
pub short_word_is : (word : Word) → is_dashed word ≡ true → bytes_eq word (codes "--") ≡ false → behind_hyphens word ≡ None → IsUtf8 word
    → IsShort word
short_word_is [] dashed other none text = cc
short_word_is (a ∷ []) dashed other none text = cc
short_word_is (a ∷ b ∷ bytes) dashed other none text =
    let hyphen : a ≡ 45 = (Decides-eqb a 45).0 dashed in
    go (b == 45) refl bytes other none (subst (λ n. IsUtf8 (n ∷ b ∷ bytes)) hyphen text)
  where
    go : (second : Bool) → (b == 45) ≡ second → (bytes : Word) → bytes_eq (a ∷ b ∷ bytes) (codes "--") ≡ false
        → behind_hyphens (a ∷ b ∷ bytes) ≡ None → IsUtf8 (45 ∷ b ∷ bytes) → IsShort (a ∷ b ∷ bytes)
    go true is [] other none text = cc
    go true is (c ∷ bytes) other none text = cc
    go false is bytes other none text =
        let found = first_letter b bytes text in
        record {
          dashes = other;
          long = rw (dashed, is) refl;
          byte = b;
          bytes = bytes;
          short = rw (dashed, is) refl;
          letter = found.0;
          first = found.1;
        }
