-- The text of a score, part by part.
use Rattle.std.proofs.Common.{◌≡◌, ℕ, ◌+◌, ◌%◌, List, [], ◌∷◌, ◌++◌, map}
use Rattle.std.proofs.Common.{refl, ap, sym, ◌∙◌, append_assoc, arith}
use Rattle.std.specs.Prelude.{codes}
use Rattle.std.specs.Fmt.{decimal}
use Rattle.std.specs.List.{range_with_len}
use Rattle.std.proofs.lemmas.List.{flat_map_more}
use Rattle.std.proofs.lemmas.List.Concat.{flat_map-append}
use Rattle.std.proofs.lemmas.List.FromFn.{map-range_with_len_more}
use Rattle.fm_gen.specs.LargeScore.{stretch_of, notes_of, line_text, lines_text, voice}
use Rattle.fm_gen.specs.LargeScore.{seed_line, first_shape_line, head_lines, head}
use Rattle.fm_gen.specs.LargeScore.{branch, branches, large_score}

-- ---- the head

-- a line of five pieces
five_pieces : (p d q s e : List ℕ)
    → line_text (p ++ d ++ q ++ s ++ e) ≡ p ++ (d ++ (q ++ (s ++ (e ++ 10 ∷ []))))
five_pieces p d q s e = simp append_assoc

-- the line of the first shape, from left to right
pub first_shape_spelt : (stretch : ℕ) → line_text (first_shape_line stretch)
    ≡ codes "shape a = slope 1/1 by 1000 to " ++ (decimal stretch
    ++ (codes ", breath 1/16, flat 2/1 by " ++ (decimal stretch ++ (codes ";" ++ 10 ∷ []))))
first_shape_spelt stretch =
    five_pieces (codes "shape a = slope 1/1 by 1000 to ") (decimal stretch)
    (codes ", breath 1/16, flat 2/1 by ") (decimal stretch) (codes ";")

-- five lines, written behind a text one by one, the last two at once
lines_written : (t u v w x a b c d e : List ℕ) → u ≡ t ++ line_text a → v ≡ u ++ line_text b
    → w ≡ v ++ line_text c → x ≡ w ++ (line_text d ++ line_text e)
    → x ≡ t ++ lines_text (a ∷ b ∷ c ∷ d ∷ e ∷ [])
lines_written t u v w x a b c d e first second third fourth =
    rw (fourth, third, second, first) (simp append_assoc)

-- the head is what its lines leave
pub head_written : (t u v w x : List ℕ) (number stretch : ℕ) → stretch ≡ stretch_of number
    → u ≡ t ++ line_text (codes "formula 1;") → v ≡ u ++ line_text (seed_line number)
    → w ≡ v ++ line_text (first_shape_line stretch)
    → x ≡ w ++ (line_text (codes "shape b = pause 1/8, flat 4/1 by 1500;")
    ++ line_text (codes "par {"))
    → x ≡ t ++ head number
unfolding head
head_written t u v w x number stretch same first second third fourth =
    lines_written t u v w x (codes "formula 1;") (seed_line number)
    (first_shape_line (stretch_of number)) (codes "shape b = pause 1/8, flat 4/1 by 1500;")
    (codes "par {") first second (rw same at third) fourth

-- ---- a branch

-- three blocks inside one another, and a line end
three_blocks : (a c d w body o e : List ℕ)
    → a ++ o ++ ((c ++ d) ++ o ++ (w ++ o ++ body ++ e) ++ e) ++ e ++ 10 ∷ []
    ≡ a ++ (o ++ (c ++ (d ++ (o ++ (w ++ (o ++ (body ++ (e ++ (e ++ (e ++ 10 ∷ []))))))))))
three_blocks a c d w body o e = simp append_assoc

-- the same round one more
four_blocks : (a c d w x body o e : List ℕ)
    → a ++ o ++ ((c ++ d) ++ o ++ (w ++ o ++ (x ++ o ++ body ++ e) ++ e) ++ e) ++ e ++ 10 ∷ []
    ≡ a ++ (o ++ (c ++ (d ++ (o ++ (w ++ (o ++ (x ++ (o
    ++ (body ++ (e ++ (e ++ (e ++ (e ++ 10 ∷ [])))))))))))))
four_blocks a c d w x body o e = simp append_assoc

-- what stands before the channel, and behind it
abbrev pub before_channel : List ℕ
before_channel = codes "branch { channel "

abbrev pub behind_channel : List ℕ
behind_channel = codes " { warp a { "

-- the branch of an even channel, from left to right
pub even_spelt : (notes channel : ℕ) → channel % 2 ≡ 0 → line_text (branch notes channel)
    ≡ before_channel ++ (decimal channel ++ (behind_channel
    ++ (voice notes ++ (codes " } } }" ++ 10 ∷ []))))
unfolding branch
even_spelt notes channel even =
    rw even
    (three_blocks (codes "branch") (codes "channel ") (decimal channel) (codes "warp a")
    (voice notes) (codes " { ") (codes " }"))

-- the branch of an odd channel
pub odd_spelt : (notes channel : ℕ) → channel % 2 ≡ 1 → line_text (branch notes channel)
    ≡ before_channel ++ (decimal channel ++ (behind_channel
    ++ (codes "warp b { " ++ (voice notes ++ (codes " } } } }" ++ 10 ∷ [])))))
unfolding branch
odd_spelt notes channel odd =
    rw odd
    (four_blocks (codes "branch") (codes "channel ") (decimal channel) (codes "warp a")
    (codes "warp b") (voice notes) (codes " { ") (codes " }"))

-- what three writes leave
three_written : (t u v w p d q n e : List ℕ) → u ≡ t ++ (p ++ (d ++ q)) → v ≡ u ++ n → w ≡ v ++ e
    → w ≡ t ++ (p ++ (d ++ (q ++ (n ++ e))))
three_written t u v w p d q n e first second third = rw (third, second, first) (simp append_assoc)

-- the branch of an even channel is what its writes leave
pub even_written : (t u v w : List ℕ) (notes channel : ℕ) → channel % 2 ≡ 0
    → u ≡ t ++ (before_channel ++ (decimal channel ++ behind_channel)) → v ≡ u ++ voice notes
    → w ≡ v ++ (codes " } } }" ++ 10 ∷ []) → w ≡ t ++ line_text (branch notes channel)
even_written t u v w notes channel even first second third =
    three_written t u v w before_channel (decimal channel) behind_channel (voice notes)
    (codes " } } }" ++ 10 ∷ []) first second third
    ∙ ap (λ text. t ++ text) (sym (even_spelt notes channel even))

-- what four writes leave
four_written : (t u v w x p d q b n e : List ℕ) → u ≡ t ++ (p ++ (d ++ q)) → v ≡ u ++ b
    → w ≡ v ++ n → x ≡ w ++ e → x ≡ t ++ (p ++ (d ++ (q ++ (b ++ (n ++ e)))))
four_written t u v w x p d q b n e first second third fourth =
    rw (fourth, third, second, first) (simp append_assoc)

-- the branch of an odd channel
pub odd_written : (t u v w x : List ℕ) (notes channel : ℕ) → channel % 2 ≡ 1
    → u ≡ t ++ (before_channel ++ (decimal channel ++ behind_channel))
    → v ≡ u ++ codes "warp b { " → w ≡ v ++ voice notes
    → x ≡ w ++ (codes " } } } }" ++ 10 ∷ []) → x ≡ t ++ line_text (branch notes channel)
odd_written t u v w x notes channel odd first second third fourth =
    four_written t u v w x before_channel (decimal channel) behind_channel (codes "warp b { ")
    (voice notes) (codes " } } } }" ++ 10 ∷ []) first second third fourth
    ∙ ap (λ text. t ++ text) (sym (odd_spelt notes channel odd))

-- ---- the whole

-- the branches of the channels below one
abbrev pub branches_below : ℕ → ℕ → List (List ℕ)
branches_below notes channel = map (branch notes) (range_with_len 0 channel)

-- one branch more
pub next_branch : (before : List ℕ) (notes channel : ℕ)
    → (before ++ lines_text (branches_below notes channel)) ++ line_text (branch notes channel)
    ≡ before ++ lines_text (branches_below notes (channel + 1))
next_branch before notes channel =
    flat_map_more line_text before (branches_below notes channel) (branch notes channel)
    ∙ ap (λ lines. before ++ lines_text lines)
    (sym (map-range_with_len_more (branch notes) 0 channel channel (omega arith)))

-- three lists of lines one after another
joined : (xs ys zs : List (List ℕ))
    → lines_text ((xs ++ ys) ++ zs) ≡ (lines_text xs ++ lines_text ys) ++ lines_text zs
joined xs ys zs =
    flat_map-append line_text (xs ++ ys) zs
    ∙ ap (λ text. text ++ lines_text zs) (flat_map-append line_text xs ys)

-- the head, the branches and the closing brace
pub large_score-parts : (number : ℕ)
    → large_score number ≡ (head number ++ lines_text (branches (notes_of number))) ++ 125 ∷ 10 ∷ []
unfolding head large_score
large_score-parts number =
    joined (head_lines number) (branches (notes_of number)) (codes "}" ∷ [])

-- the score is what is written once there are sixteen branches
pub all_written : (number channel : ℕ) → channel ≡ 16
    → (head number ++ lines_text (branches_below (notes_of number) channel)) ++ 125 ∷ 10 ∷ []
    ≡ large_score number
all_written number channel last = rw (last, large_score-parts) refl
