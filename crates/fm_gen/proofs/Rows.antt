-- Worked examples of the texts.
use Rattle.std.proofs.Common.{◌≡◌, ◌^◌, ◌-◌, [], ◌∷◌, ◌++◌, length, take, refl}
use Rattle.std.specs.Prelude.{codes}
use Rattle.std.specs.Fmt.{digits}
use Rattle.fm_gen.specs.LargeScore.{notes_of, stretch_of, line_text, lines_text}
use Rattle.fm_gen.specs.LargeScore.{large_score, branch, branches, head}
use Rattle.fm_gen.specs.SummaryLine.{summary_line}
use Rattle.fm_gen.specs.declared.score.TheConstants.{MAX_NUMBER, MAX_SCORE}

-- the number 124 has the most notes
head_of_124 : head 124 ≡ lines_text (codes "formula 1;" ∷ codes "seed 124;"
    ∷ codes "shape a = slope 1/1 by 1000 to 624, breath 1/16, flat 2/1 by 624;"
    ∷ codes "shape b = pause 1/8, flat 4/1 by 1500;" ∷ codes "par {" ∷ [])
unfolding head digits
head_of_124 = refl

-- a line ends with a line feed
line_of_two : line_text (codes "ab") ≡ 97 ∷ 98 ∷ 10 ∷ []
line_of_two = refl

-- the text begins with its head
first_line_of_0 : take 11 (large_score 0) ≡ codes "formula 1;\n"
unfolding large_score branch digits
first_line_of_0 = refl

notes_of_124 : notes_of 124 ≡ 125000
notes_of_124 = refl

-- the next number has the fewest again
notes_of_125 : notes_of 125 ≡ 1000
notes_of_125 = refl

-- the stretches go from 500 to 1499
stretch_of_999 : stretch_of 999 ≡ 1499
stretch_of_999 = refl

stretch_of_1000 : stretch_of 1000 ≡ 500
stretch_of_1000 = refl

-- even channels have one deformation, odd ones two
branch_0 : branch 1000 0
    ≡ codes "branch { channel 0 { warp a { repeat 1000 { note key (36 + pick(60)) 1/16; } } } }"
unfolding branch digits
branch_0 = refl

branch_15 : branch 125000 15
    ≡ codes "branch { channel 15 { warp a { warp b { "
    ++ codes "repeat 125000 { note key (36 + pick(60)) 1/16; } } } } }"
unfolding branch digits
branch_15 = refl

-- sixteen branches, the channels in their order
sixteen_branches : length (branches 1000) ≡ 16
sixteen_branches = refl

-- the shortest score and the longest
shortest_score : length (large_score 0) ≡ 1554
unfolding large_score branch digits
shortest_score = refl

longest_score : length (large_score MAX_NUMBER) ≡ MAX_SCORE
unfolding large_score branch digits
longest_score = refl

-- the line of the number 0
line_of_0 : summary_line (record { processes = 18; events = 32000; last = 121800; bytes = 128033 })
    ≡ codes "processes 18 events 32000 last 121800 bytes 128033" ++ 10 ∷ []
unfolding digits
line_of_0 = refl

-- the greatest numbers
longest_line : length (summary_line (record {
  processes = 2 ^ 32 - 1;
  events = 2 ^ 64 - 1;
  last = 2 ^ 64 - 1;
  bytes = 2 ^ 64 - 1;
})) ≡ 102
unfolding digits
longest_line = refl
