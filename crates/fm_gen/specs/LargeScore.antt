-- The text of a large score from one number, built of its lines and its blocks.
use Rattle.std.specs.Prelude.{ℕ, ◌+◌, ◌*◌, ◌%◌, ◌==◌, List, [], ◌∷◌, ◌++◌}
use Rattle.std.specs.Prelude.{map, codes, if◌then◌else◌}
use Rattle.std.specs.Fmt.{decimal}
use Rattle.std.specs.List.{range_with_len, flat_map}

-- the stretch that the first shape comes to, in thousandths
abbrev pub stretch_of : ℕ → ℕ
stretch_of number = 500 + number % 1000

-- how many notes each voice has
abbrev pub notes_of : ℕ → ℕ
notes_of number = 1000 * (1 + number % 125)

-- a line with its line end
abbrev pub line_text : List ℕ → List ℕ
line_text line = line ++ 10 ∷ []

-- lines, each with its line end
abbrev pub lines_text : List (List ℕ) → List ℕ
lines_text lines = flat_map line_text lines

-- words and what their braces hold
abbrev pub block : List ℕ → List ℕ → List ℕ
block words body = words ++ codes " { " ++ body ++ codes " }"

-- the notes of a voice: keys drawn from 36 to 95, each a sixteenth long
abbrev pub voice : ℕ → List ℕ
voice notes = block (codes "repeat " ++ decimal notes) (codes "note key (36 + pick(60)) 1/16;")

-- a voice on a channel: under the first shape, and on an odd channel under the second inside it
unfoldable pub branch : ℕ → ℕ → List ℕ
branch notes channel =
    block (codes "branch") (block (codes "channel " ++ decimal channel) (block (codes "warp a")
    (if channel % 2 == 1 then block (codes "warp b") (voice notes) else voice notes)))

-- the branches, one for each of the sixteen channels
abbrev pub branches : ℕ → List (List ℕ)
branches notes = map (branch notes) (range_with_len 0 16)

-- the number is the seed
abbrev pub seed_line : ℕ → List ℕ
seed_line number = codes "seed " ++ decimal number ++ codes ";"

-- a whole note that comes to a stretch, a breath, and two whole notes at that stretch
abbrev pub first_shape_line : ℕ → List ℕ
first_shape_line stretch =
    codes "shape a = slope 1/1 by 1000 to " ++ decimal stretch
    ++ codes ", breath 1/16, flat 2/1 by " ++ decimal stretch ++ codes ";"

-- the lines before the branches
abbrev pub head_lines : ℕ → List (List ℕ)
head_lines number =
    codes "formula 1;"
    ∷ seed_line number
    ∷ first_shape_line (stretch_of number)
    ∷ codes "shape b = pause 1/8, flat 4/1 by 1500;"
    ∷ codes "par {"
    ∷ []

-- what stands before the branches
unfoldable pub head : ℕ → List ℕ
head number = lines_text (head_lines number)

-- the text of the score of a number
unfoldable pub large_score : ℕ → List ℕ
large_score number = lines_text (head_lines number ++ branches (notes_of number) ++ codes "}" ∷ [])
