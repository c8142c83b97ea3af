-- The walk over blanks and comments, byte by byte.
use Rattle.std.proofs.Common.{◌≡◌, ℕ, suc, ◌+◌, ◌≤◌, ◌==◌, true, false, cond, List, [], ◌∷◌, length, drop, slice_index_or, refl, arith, length-drop}
use Rattle.std.proofs.lemmas.Bool.Decides.{nat_tests}
use Rattle.fm_lex.specs.declared.spot.Spot.{Spot}
use Rattle.fm_lex.specs.Bytes.{is_blank, after_byte}
use Rattle.fm_lex.specs.Tokens.{between, comment, walk}
use Rattle.fm_lex.specs.Room.{SpotsFit}

-- a blank
pub walk-blank : (s : Spot) (xs : List ℕ) → 1 ≤ length xs → is_blank (slice_index_or xs 0 0) ≡ true
    → walk between s xs ≡ walk between (after_byte (slice_index_or xs 0 0) s) (drop 1 xs)
unfolding walk
walk-blank s [] some blank = absurd (omega arith)
walk-blank s (x ∷ xs) some blank = rw blank refl

-- the byte that begins a comment
pub walk-number_sign : (s : Spot) (xs : List ℕ) → 1 ≤ length xs → slice_index_or xs 0 0 ≡ 35
    → walk between s xs ≡ walk comment (after_byte (slice_index_or xs 0 0) s) (drop 1 xs)
unfolding walk
walk-number_sign s [] some is = absurd (omega arith)
walk-number_sign s (x ∷ xs) some is = rw is refl

-- a byte of a comment
pub walk-comment : (s : Spot) (xs : List ℕ) → 1 ≤ length xs → (slice_index_or xs 0 0 ≡ 10 → ⊥)
    → walk comment s xs ≡ walk comment (after_byte (slice_index_or xs 0 0) s) (drop 1 xs)
unfolding walk
walk-comment s [] some other = absurd (omega arith)
walk-comment s (x ∷ xs) some other = let differs : (x == 10) ≡ false = grind (arith, nat_tests) in rw differs refl

-- the line feed behind a comment
pub walk-line_feed : (s : Spot) (xs : List ℕ) → 1 ≤ length xs → slice_index_or xs 0 0 ≡ 10
    → walk comment s xs ≡ walk between s xs
unfolding walk
walk-line_feed s [] some is = absurd (omega arith)
walk-line_feed s (x ∷ xs) some is = rw is refl

-- a comment at the end of the text
pub walk-comment_end : (s : Spot) (xs : List ℕ) → length xs ≡ 0 → walk comment s xs ≡ walk between s xs
unfolding walk
walk-comment_end s [] none = refl
walk-comment_end s (x ∷ xs) none = absurd (omega arith)

-- one byte on, the spots still fit
pub room_after : (s : Spot) (xs : List ℕ) (x : ℕ) → 1 ≤ length xs → SpotsFit s xs
    → SpotsFit (after_byte x s) (drop 1 xs)
room_after s xs x some room =
    let left : suc (length (drop 1 xs)) ≡ length xs = omega (arith, length-drop 1 xs) in
    let lines = room.lines in
    let columns = room.columns in
    elim (x == 10) as (λ b. SpotsFit (cond b (record { line = s.line + 1; column = 1 }) (record { line = s.line; column = s.column + 1 }))
    (drop 1 xs))
    [ true ↦ record { lines = omega arith; columns = omega arith } | false ↦ record { lines = omega arith; columns = omega arith } ]

pub ruleset gap_steps = (walk-blank, walk-number_sign, walk-comment, walk-line_feed, walk-comment_end, room_after)
