-- The tokens of the walk stand in the text.
use Rattle.std.proofs.Common.{◌≡◌, ℕ, suc, ◌+◌, ◌≤◌, Bool, true, false, not, ◌==◌, List, [], ◌∷◌, ◌++◌, length, drop, take, Ok, refl, sym, ap, ◌∙◌, arith, append_assoc}
use Rattle.std.specs.Prelude.{if◌then◌else◌, count_by}
use Rattle.std.specs.List.{prefix_len, suffix_len}
use Rattle.std.proofs.lemmas.Bool.Decides.{nat_tests}
use Rattle.std.proofs.lemmas.List.{reverse-append, append-nil, take-append-drop}
use Rattle.std.proofs.lemmas.Bool.{false≢true}
use Rattle.std.proofs.lemmas.List.Sums.{fold-append}
use Rattle.fm_lex.specs.declared.spot.Spot.{Spot}
use Rattle.fm_lex.specs.Bytes.{in_word, is_blank, after_byte}
use Rattle.fm_lex.specs.Tokens.{Lexeme, Lexed, lexed_at, text_of, between, comment, inside, walk}
use Rattle.fm_lex.specs.Layout.{spot_behind, gap_ends, is_end, Stands, AreTokens}
use Rattle.fm_lex.specs.Room.{BeginsToken}
use Rattle.fm_lex.proofs.Gaps.{walk-blank, walk-number_sign, walk-comment}
use Rattle.fm_lex.proofs.Steps.{walk-then_more, walk_goes, inside-ends}
use Rattle.fm_lex.proofs.Reading.{Case, fault, run, sign, read_case}

-- ---- spots

count_by-snoc : (p : ℕ → Bool) (xs : List ℕ) (x : ℕ) → count_by p (xs ++ x ∷ []) ≡ count_by p xs + (if p x then 1 else 0)
count_by-snoc p xs x = fold-append (λ (n y : ℕ). n + (if p y then 1 else 0)) 0 xs (x ∷ [])

suffix_len-snoc : (p : ℕ → Bool) (xs : List ℕ) (x : ℕ) → suffix_len p (xs ++ x ∷ []) ≡ (if p x then 1 + suffix_len p xs else 0)
suffix_len-snoc p xs x = rw (reverse-append xs (x ∷ [])) refl

spot_on : (before : List ℕ) (x : ℕ) (b : Bool) → (x == 10) ≡ b
    → spot_behind (before ++ x ∷ []) ≡ after_byte x (spot_behind before)
spot_on before x true is =
    let lines : ℕ = count_by (λ y. y == 10) before in
    let here : 1 + (lines + 1) ≡ 1 + lines + 1 = omega arith in
    rw (count_by-snoc (λ y. y == 10) before x, suffix_len-snoc (λ y. not (y == 10)) before x, is, here) refl
spot_on before x false is =
    let lines : ℕ = count_by (λ y. y == 10) before in
    let bytes : ℕ = suffix_len (λ y. not (y == 10)) before in
    let here : 1 + (lines + 0) ≡ 1 + lines = omega arith in
    let there : 1 + (1 + bytes) ≡ 1 + bytes + 1 = omega arith in
    rw (count_by-snoc (λ y. y == 10) before x, suffix_len-snoc (λ y. not (y == 10)) before x, is, here, there) refl

-- one byte on
pub spot_behind-append : (before : List ℕ) (x : ℕ) → spot_behind (before ++ x ∷ []) ≡ after_byte x (spot_behind before)
spot_behind-append before x = spot_on before x (x == 10) refl

-- ---- gaps

-- a byte more at the front of a gap
byte_before : (inner outer : Bool) (before : List ℕ) (x : ℕ) (xs : List ℕ) (ts : List Lexed)
    → ((gap : List ℕ) → gap_ends outer (x ∷ gap) ≡ gap_ends inner gap)
    → AreTokens inner (before ++ x ∷ []) xs ts → AreTokens outer before (x ∷ xs) ts
byte_before inner outer before x xs [] same are = are
byte_before inner outer before x xs (t ∷ []) same are = record {
  gap = x ∷ are.gap;
  left = are.left;
  place = ap (λ (r : List ℕ). x ∷ r) are.place;
  in_last = are.in_last;
  apart = same are.gap ∙ are.apart;
  closed = are.closed;
  read = rw (append_assoc before (x ∷ []) are.gap) at are.read;
  last = are.last;
}
byte_before inner outer before x xs (t ∷ u ∷ us) same are = record {
  gap = x ∷ are.gap;
  after = are.after;
  place = ap (λ (r : List ℕ). x ∷ r) are.place;
  apart = same are.gap ∙ are.apart;
  read = rw (append_assoc before (x ∷ []) are.gap) at are.read;
  goes_on = are.goes_on;
  next = rw (append_assoc before (x ∷ []) (are.gap ++ text_of t)) at are.next;
}

-- a token, and something behind it
first_of : (before rest : List ℕ) (t : Lexed) (us : List Lexed) → 1 ≤ length us
    → Stands false before rest t (λ b r. AreTokens false b r us) → AreTokens false before rest (t ∷ us)
first_of before rest t [] some stands = absurd (omega arith)
first_of before rest t (u ∷ us) some stands = stands

-- ---- the walk

-- what is shown of the rest of a text in each mode
pub record Laid (xs : List ℕ) : Type 0 where
  pub fresh : (before : List ℕ) → AreTokens false before xs (walk between (spot_behind before) xs)
  pub commented : (before : List ℕ) → AreTokens true before xs (walk comment (spot_behind before) xs)
  pub worded : (before : List ℕ)
      → AreTokens false (before ++ take (prefix_len in_word xs) xs) (drop (prefix_len in_word xs) xs)
      (walk inside (spot_behind before) xs)

laid_end : Laid []
unfolding walk
laid_end = record {
  fresh = λ before. record {
    gap = [];
    left = [];
    place = refl;
    in_last = false;
    apart = refl;
    closed = λ is. refl;
    read = rw (append-nil before) refl;
    last = refl;
  };
  commented = λ before. record {
    gap = [];
    left = [];
    place = refl;
    in_last = true;
    apart = refl;
    closed = λ is. refl;
    read = rw (append-nil before) refl;
    last = refl;
  };
  worded = λ before. record {
    gap = [];
    left = [];
    place = refl;
    in_last = false;
    apart = refl;
    closed = λ is. refl;
    read = rw (append-nil before, append-nil before) refl;
    last = refl;
  };
}

-- what is left of a text begins with the token that was read there
token_place : (x : ℕ) (xs text : List ℕ) (k : ℕ) → text ≡ x ∷ take k xs → x ∷ xs ≡ text ++ drop k xs
token_place x xs text k is = rw (is, take-append-drop k xs) refl

-- a token behind no gap
here : (before : List ℕ) (x : ℕ) (xs : List ℕ) (t : Lexeme) (k : ℕ) (us : List Lexed)
    → lexed_at (spot_behind before) (x ∷ xs) ≡ Ok t → is_end t.kind ≡ false → t.text ≡ x ∷ take k xs
    → AreTokens false ((before ++ x ∷ []) ++ take k xs) (drop k xs) us
    → Stands false before (x ∷ xs) (Ok t) (λ b r. AreTokens false b r us)
here before x xs t k us read goes_on text next =
    let place : x ∷ xs ≡ t.text ++ drop k xs = token_place x xs t.text k text in
    record {
      gap = [];
      after = drop k xs;
      place = place;
      apart = refl;
      read = rw (append-nil before, ← place) (sym read);
      goes_on = goes_on;
      next = rw text (rw (append_assoc before (x ∷ []) (take k xs)) at next);
    }

-- the token that a byte begins
laid_case : (before : List ℕ) (x : ℕ) (xs : List ℕ) → BeginsToken (x ∷ xs) → Laid xs
    → Case (spot_behind before) x xs → AreTokens false before (x ∷ xs) (walk between (spot_behind before) (x ∷ xs))
laid_case before x xs begins laid_xs (fault f is) =
    rw (walk-then_more (spot_behind before) x xs begins, is) (record {
      gap = [];
      left = x ∷ xs;
      place = refl;
      in_last = false;
      apart = refl;
      closed = λ no. absurd (false≢true no);
      read = rw (append-nil before) (sym is);
      last = refl;
    })
laid_case before x xs begins laid_xs (run t is) =
    let text : t.text ≡ x ∷ take (prefix_len in_word xs) xs =
    is.text ∙ rw is.first (let up : 1 + prefix_len in_word xs ≡ suc (prefix_len in_word xs) = omega arith in rw up refl) in
    let us : List Lexed = walk inside (after_byte x (spot_behind before)) xs in
    rw (walk-then_more (spot_behind before) x xs begins, is.read, is.first)
    (first_of before (x ∷ xs) (Ok t) us (walk_goes inside _ xs)
    (here before x xs t (prefix_len in_word xs) us is.read is.goes_on text
    (rw (← spot_behind-append before x) (laid_xs.worded (before ++ x ∷ [])))))
laid_case before x xs begins laid_xs (sign t is) =
    let us : List Lexed = walk between (after_byte x (spot_behind before)) xs in
    rw (walk-then_more (spot_behind before) x xs begins, is.read, is.first)
    (first_of before (x ∷ xs) (Ok t) us (walk_goes between _ xs)
    (here before x xs t 0 us is.read is.goes_on is.text
    (rw (append-nil (before ++ x ∷ []), ← spot_behind-append before x) (laid_xs.fresh (before ++ x ∷ [])))))

-- a byte between tokens
laid_fresh : (before : List ℕ) (x : ℕ) (xs : List ℕ) (blank hash : Bool) → is_blank x ≡ blank → (x == 35) ≡ hash
    → Laid xs → AreTokens false before (x ∷ xs) (walk between (spot_behind before) (x ∷ xs))
laid_fresh before x xs true hash blank is laid_xs =
    let differs : (x == 35) ≡ false = grind (arith, nat_tests) in
    let on : walk between (spot_behind before) (x ∷ xs) ≡ walk between (after_byte x (spot_behind before)) xs =
    walk-blank (spot_behind before) (x ∷ xs) (omega arith) blank in
    rw (on, ← spot_behind-append before x)
    (byte_before false false before x xs _ (λ gap. rw (differs, blank) refl) (laid_xs.fresh (before ++ x ∷ [])))
laid_fresh before x xs false true blank is laid_xs =
    let same : x ≡ 35 = grind (arith, nat_tests) in
    let on : walk between (spot_behind before) (x ∷ xs) ≡ walk comment (after_byte x (spot_behind before)) xs =
    walk-number_sign (spot_behind before) (x ∷ xs) (omega arith) same in
    rw (on, ← spot_behind-append before x)
    (byte_before true false before x xs _ (λ gap. rw is refl) (laid_xs.commented (before ++ x ∷ [])))
laid_fresh before x xs false false blank is laid_xs =
    laid_case before x xs (blank, is) laid_xs (read_case (spot_behind before) x xs)

-- the byte that ends a comment
comment_ends : (s : Spot) (x : ℕ) (xs : List ℕ) → (x == 10) ≡ true
    → walk comment s (x ∷ xs) ≡ walk between (after_byte x s) xs
unfolding walk
comment_ends s x xs is = rw is refl

-- a byte of a comment
laid_commented : (before : List ℕ) (x : ℕ) (xs : List ℕ) (ends : Bool) → (x == 10) ≡ ends → Laid xs
    → AreTokens true before (x ∷ xs) (walk comment (spot_behind before) (x ∷ xs))
laid_commented before x xs true is laid_xs =
    rw (comment_ends (spot_behind before) x xs is, ← spot_behind-append before x)
    (byte_before false true before x xs _ (λ gap. rw is refl) (laid_xs.fresh (before ++ x ∷ [])))
laid_commented before x xs false is laid_xs =
    let on : walk comment (spot_behind before) (x ∷ xs) ≡ walk comment (after_byte x (spot_behind before)) xs =
    walk-comment (spot_behind before) (x ∷ xs) (omega arith) (grind (arith, nat_tests)) in
    rw (on, ← spot_behind-append before x)
    (byte_before true true before x xs _ (λ gap. rw is refl) (laid_xs.commented (before ++ x ∷ [])))

-- a byte of a word goes on with it
word_goes : (s : Spot) (x : ℕ) (xs : List ℕ) → in_word x ≡ true
    → walk inside s (x ∷ xs) ≡ walk inside (after_byte x s) xs
unfolding walk
word_goes s x xs is = rw is refl

-- a byte behind the first one of a word
laid_worded : (before : List ℕ) (x : ℕ) (xs : List ℕ) (inner : Bool) → in_word x ≡ inner → Laid xs
    → AreTokens false before (x ∷ xs) (walk between (spot_behind before) (x ∷ xs))
    → AreTokens false (before ++ take (prefix_len in_word (x ∷ xs)) (x ∷ xs)) (drop (prefix_len in_word (x ∷ xs)) (x ∷ xs))
    (walk inside (spot_behind before) (x ∷ xs))
laid_worded before x xs true is laid_xs fresh =
    let up : 1 + prefix_len in_word xs ≡ suc (prefix_len in_word xs) = omega arith in
    rw (
      word_goes (spot_behind before) x xs is,
      is,
      up,
      ← spot_behind-append before x,
      ← append_assoc before (x ∷ []) (take (prefix_len in_word xs) xs),
    )
    (laid_xs.worded (before ++ x ∷ []))
laid_worded before x xs false is laid_xs fresh =
    rw (inside-ends (spot_behind before) x xs is, is, append-nil before) fresh

-- one byte more
laid_byte : (x : ℕ) (xs : List ℕ) → Laid xs → Laid (x ∷ xs)
laid_byte x xs laid_xs =
    let fresh : (before : List ℕ) → AreTokens false before (x ∷ xs) (walk between (spot_behind before) (x ∷ xs)) =
    λ before. laid_fresh before x xs (is_blank x) (x == 35) refl refl laid_xs in
    record {
      fresh = fresh;
      commented = λ before. laid_commented before x xs (x == 10) refl laid_xs;
      worded = λ before. laid_worded before x xs (in_word x) refl laid_xs (fresh before);
    }

-- the tokens of what is left of a text, in each mode
pub laid : (xs : List ℕ) → Laid xs
laid [] = laid_end
laid (x ∷ xs) = laid_byte x xs (laid xs)
