-- How long a score is.
use Rattle.std.proofs.Common.{◌≡◌, ℕ, ◌+◌, ◌%◌, ◌<◌, ◌≤◌, List, [], ◌∷◌, ◌++◌, length}
use Rattle.std.proofs.Common.{refl, ap, length-append, arith}
use Rattle.std.specs.Prelude.{codes}
use Rattle.std.specs.Fmt.{decimal}
use Rattle.std.proofs.lemmas.Fmt.{length-decimal-le}
use Rattle.fm_gen.specs.LargeScore.{stretch_of, notes_of, lines_text, voice, branch, branches}
use Rattle.fm_gen.specs.LargeScore.{head, large_score}
use Rattle.fm_gen.specs.declared.score.TheConstants.{MAX_NUMBER, MAX_SCORE}
use Rattle.fm_gen.proofs.TextLemmas.{before_channel, behind_channel}
use Rattle.fm_gen.proofs.TextLemmas.{even_spelt, odd_spelt, large_score-parts}

-- a voice
voice_pieces : (r n o v e : List ℕ) → length ((r ++ n) ++ o ++ v ++ e)
    ≡ length n + (length r + (length o + (length v + length e)))
voice_pieces r n o v e = simp length-append (omega arith)

length-voice : (notes : ℕ) → length (voice notes) ≡ length (decimal notes) + 42
length-voice notes =
    voice_pieces (codes "repeat ") (decimal notes) (codes " { ")
    (codes "note key (36 + pick(60)) 1/16;") (codes " }")

-- the length of a line of six pieces
six_pieces : (line p d q r n e : List ℕ) → line ++ 10 ∷ [] ≡ p ++ (d ++ (q ++ (r ++ (n ++ e))))
    → length line + 1 ≡ length p + (length d + (length q + (length r + (length n + length e))))
six_pieces line p d q r n e spelt = simp length-append at (ap length spelt)

-- a branch of an even channel
even_short : (notes channel digits : ℕ) → channel % 2 ≡ 0 → length (decimal channel) ≤ digits
    → length (decimal notes) ≤ 6 → length (branch notes channel) ≤ 83 + digits
even_short notes channel digits even few short =
    omega (
      arith,
      length-voice notes,
      six_pieces (branch notes channel) before_channel (decimal channel) behind_channel []
          (voice notes) (codes " } } }" ++ 10 ∷ []) (even_spelt notes channel even),
    )

-- a branch of an odd channel
odd_short : (notes channel digits : ℕ) → channel % 2 ≡ 1 → length (decimal channel) ≤ digits
    → length (decimal notes) ≤ 6 → length (branch notes channel) ≤ 94 + digits
odd_short notes channel digits odd few short =
    omega (
      arith,
      length-voice notes,
      six_pieces (branch notes channel) before_channel (decimal channel) behind_channel
          (codes "warp b { ") (voice notes) (codes " } } } }" ++ 10 ∷ [])
          (odd_spelt notes channel odd),
    )

-- numbers of one digit, and of two
one : (n : ℕ) → n < 10 → length (decimal n) ≤ 1
one n small = length-decimal-le 1 n (omega arith) (omega arith) (omega arith)

two : (n : ℕ) → n < 100 → length (decimal n) ≤ 2
two n small = length-decimal-le 2 n (omega arith) (omega arith) (omega arith)

-- all sixteen lines
branches_short : (notes : ℕ) → length (decimal notes) ≤ 6
    → length (lines_text (branches notes)) ≤ 1454
branches_short notes short =
    let b0 = even_short notes 0 1 refl (one 0 (omega arith)) short in
    let b1 = odd_short notes 1 1 refl (one 1 (omega arith)) short in
    let b2 = even_short notes 2 1 refl (one 2 (omega arith)) short in
    let b3 = odd_short notes 3 1 refl (one 3 (omega arith)) short in
    let b4 = even_short notes 4 1 refl (one 4 (omega arith)) short in
    let b5 = odd_short notes 5 1 refl (one 5 (omega arith)) short in
    let b6 = even_short notes 6 1 refl (one 6 (omega arith)) short in
    let b7 = odd_short notes 7 1 refl (one 7 (omega arith)) short in
    let b8 = even_short notes 8 1 refl (one 8 (omega arith)) short in
    let b9 = odd_short notes 9 1 refl (one 9 (omega arith)) short in
    let b10 = even_short notes 10 2 refl (two 10 (omega arith)) short in
    let b11 = odd_short notes 11 2 refl (two 11 (omega arith)) short in
    let b12 = even_short notes 12 2 refl (two 12 (omega arith)) short in
    let b13 = odd_short notes 13 2 refl (two 13 (omega arith)) short in
    let b14 = even_short notes 14 2 refl (two 14 (omega arith)) short in
    let b15 = odd_short notes 15 2 refl (two 15 (omega arith)) short in
    simp length-append (omega arith)

-- the head
head_short : (number : ℕ) → length (decimal number) ≤ 9
    → length (decimal (stretch_of number)) ≤ 4 → length (head number) ≤ 140
unfolding head
head_short number short few = simp length-append (omega arith)

-- head, branches and the closing brace
whole_short : (text front lines : List ℕ) → text ≡ (front ++ lines) ++ 125 ∷ 10 ∷ []
    → length front ≤ 140 → length lines ≤ 1454 → length text ≤ 1596
whole_short text front lines parts few short = rw parts (simp length-append (omega arith))

-- no score is longer
pub large_score_short : (number : ℕ) → number ≤ MAX_NUMBER → length (large_score number) ≤ MAX_SCORE
large_score_short number small =
    whole_short (large_score number) (head number) (lines_text (branches (notes_of number)))
    (large_score-parts number)
    (head_short number
    (length-decimal-le 9 number (omega arith) (omega arith) (omega arith))
    (length-decimal-le 4 (stretch_of number) (omega arith) (omega arith) (omega arith)))
    (branches_short (notes_of number)
    (length-decimal-le 6 (notes_of number) (omega arith) (omega arith) (omega arith)))
