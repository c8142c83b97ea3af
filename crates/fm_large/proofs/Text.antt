-- The text of a large score in one piece, with its numbers apart.
use Rattle.std.proofs.Common.{◌≡◌, ◌∙◌, ◌==◌, ◌%◌, ℕ, Bool, true, false, List, [], ◌∷◌, ◌++◌, map, refl, ap, codes, append_assoc, if◌then◌else◌}
use Rattle.std.specs.Fmt.{decimal}
use Rattle.fm_gen.specs.LargeScore.{block, branch as branch_line, large_score, line_text, lines_text, notes_of, stretch_of, voice}

-- ---- branches

-- a branch under the first shape alone
abbrev pub single_text : ℕ → ℕ → List ℕ → List ℕ
single_text notes number rest = codes "branch { channel " ++ (decimal number ++ (codes " { warp a { repeat " ++ (decimal notes
    ++ (codes " { note key (36 + pick(60)) 1/16; } } } }" ++ 10 ∷ rest))))

-- and under both
abbrev pub double_text : ℕ → ℕ → List ℕ → List ℕ
double_text notes number rest = codes "branch { channel " ++ (decimal number ++ (codes " { warp a { warp b { repeat " ++ (decimal notes
    ++ (codes " { note key (36 + pick(60)) 1/16; } } } } }" ++ 10 ∷ rest))))

-- the branch of a channel
abbrev pub branch_text : ℕ → ℕ → List ℕ → List ℕ
branch_text notes number rest = if number % 2 == 1 then double_text notes number rest else single_text notes number rest

-- the branches of channels
abbrev pub branches_written : ℕ → List ℕ → List ℕ → List ℕ
branches_written notes [] rest = rest
branches_written notes (number ∷ numbers) rest = branch_text notes number (branches_written notes numbers rest)

-- ---- the text

-- the channels behind the first
abbrev pub channels : List ℕ
channels = 1 ∷ 2 ∷ 3 ∷ 4 ∷ 5 ∷ 6 ∷ 7 ∷ 8 ∷ 9 ∷ 10 ∷ 11 ∷ 12 ∷ 13 ∷ 14 ∷ 15 ∷ []

-- the text in one piece
abbrev pub whole_text : ℕ → ℕ → ℕ → List ℕ
whole_text number stretch notes = codes "formula 1;" ++ 10 ∷ (codes "seed " ++
    (decimal number ++ (codes ";" ++ 10 ∷ (codes "shape a = slope 1/1 by 1000 to "
    ++ (decimal stretch ++ (codes ", breath 1/16, flat 2/1 by " ++ (decimal stretch ++ (codes ";" ++ 10
    ∷ (codes "shape b = pause 1/8, flat 4/1 by 1500;" ++ 10 ∷ (codes "par {" ++ 10 ∷
    branches_written notes (0 ∷ channels) (codes "}" ++ 10 ∷ [])))))))))))

-- ---- it is the text of the number

-- a line of three pieces, and of five
three_pieces : (a d b later : List ℕ) → line_text (a ++ d ++ b) ++ later ≡ a ++ (d ++ (b ++ 10 ∷ later))
three_pieces a d b later = simp append_assoc

five_pieces : (a d b e c later : List ℕ) → line_text (a ++ d ++ b ++ e ++ c) ++ later ≡ a ++ (d ++ (b ++ (e ++ (c ++ 10 ∷ later))))
five_pieces a d b e c later = simp append_assoc

-- blocks inside one another, of which o opens each and c closes it
abbrev braced : (o c words body : List ℕ) → List ℕ
braced o c words body = words ++ o ++ body ++ c

single_pieces : (o c b h d w r e n later : List ℕ) → (braced o c b (braced o c (h ++ d) (braced o c w (braced o c (r ++ e) n))) ++ 10
    ∷ []) ++ later
    ≡ (b ++ o ++ h) ++ (d ++ ((o ++ w ++ o ++ r) ++ (e ++ ((o ++ n ++ c ++ c ++ c ++ c) ++ 10 ∷ later))))
single_pieces o c b h d w r e n later = simp append_assoc

double_pieces : (o c b h d w v r e n later : List ℕ) → (braced o c b (braced o c (h ++ d)
    (braced o c w (braced o c v (braced o c (r ++ e) n)))) ++ 10 ∷ []) ++ later
    ≡ (b ++ o ++ h) ++ (d ++ ((o ++ w ++ o ++ v ++ o ++ r) ++ (e ++ ((o ++ n ++ c ++ c ++ c ++ c ++ c) ++ 10 ∷ later))))
double_pieces o c b h d w v r e n later = simp append_assoc

single_line : (notes number : ℕ) (later : List ℕ) → line_text (block (codes "branch")
    (block (codes "channel " ++ decimal number) (block (codes "warp a") (voice notes)))) ++ later ≡ single_text notes number later
single_line notes number later = single_pieces (codes " { ") (codes " }") (codes "branch") (codes "channel ") (decimal number)
    (codes "warp a") (codes "repeat ") (decimal notes) (codes "note key (36 + pick(60)) 1/16;") later

double_line : (notes number : ℕ) (later : List ℕ) → line_text (block (codes "branch")
    (block (codes "channel " ++ decimal number) (block (codes "warp a") (block (codes "warp b") (voice notes))))) ++ later
    ≡ double_text notes number later
double_line notes number later =
    double_pieces (codes " { ") (codes " }") (codes "branch") (codes "channel ") (decimal number) (codes "warp a") (codes "warp b")
    (codes "repeat ") (decimal notes) (codes "note key (36 + pick(60)) 1/16;") later

branch_line_is : (notes number : ℕ) (later : List ℕ) → line_text (branch_line notes number) ++ later ≡ branch_text notes number later
unfolding branch_line
branch_line_is notes number later = go (number % 2 == 1)
  where
    go : (b : Bool) → line_text (block (codes "branch") (block (codes "channel " ++ decimal number)
        (block (codes "warp a") (if b then block (codes "warp b") (voice notes) else voice notes)))) ++ later
        ≡ (if b then double_text notes number later else single_text notes number later)
    go true = double_line notes number later
    go false = single_line notes number later

branch_lines : (notes : ℕ) (numbers : List ℕ) → lines_text (map (branch_line notes) numbers ++ codes "}" ∷ [])
    ≡ branches_written notes numbers (codes "}" ++ 10 ∷ [])
branch_lines notes [] = refl
branch_lines notes (number ∷ numbers) =
    branch_line_is notes number _ ∙ ap (branch_text notes number) (branch_lines notes numbers)

-- with the stretch and the notes of a number
pub text_is : (number : ℕ) → large_score number ≡ whole_text number (stretch_of number) (notes_of number)
unfolding large_score
text_is number =
    ap (λ (xs : List ℕ). codes "formula 1;" ++ 10 ∷ xs)
    (three_pieces (codes "seed ") (decimal number) (codes ";") _
    ∙ ap (λ (xs : List ℕ). codes "seed " ++ (decimal number ++ (codes ";" ++ 10 ∷ xs)))
    (five_pieces (codes "shape a = slope 1/1 by 1000 to ") (decimal (stretch_of number)) (codes ", breath 1/16, flat 2/1 by ")
    (decimal (stretch_of number)) (codes ";") _
    ∙ ap (λ (xs : List ℕ). codes "shape a = slope 1/1 by 1000 to " ++ (decimal (stretch_of number) ++
    (codes ", breath 1/16, flat 2/1 by " ++ (decimal (stretch_of number) ++ (codes ";" ++ 10 ∷
    (codes "shape b = pause 1/8, flat 4/1 by 1500;" ++ 10 ∷ (codes "par {" ++ 10 ∷ xs)))))))
    (branch_lines (notes_of number) (0 ∷ channels))))
