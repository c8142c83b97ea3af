-- Worked lists of faults: those of one statement come in turn, and what a deformation or a fork makes of totals.
use Rattle.std.proofs.Common.{◌≡◌, ℕ, ◌+◌, ◌^◌, List, [], ◌∷◌, map, true, false, refl, pos}
use Rattle.std.specs.Prelude.{codes}
use Rattle.fm_value.specs.declared.node.TheConstants.{MAX_VALUE}
use Rattle.fm_value.specs.declared.node.Node.TheVariants.{Literal, Index}
use Rattle.fm_warp.specs.declared.part.Part.TheVariants.{Breath}
use Rattle.fm_grammar.specs.declared.number.Number.{Number}
use Rattle.fm_grammar.specs.declared.length.Length.TheVariants.{Share, Ticks}
use Rattle.fm_grammar.specs.declared.part_text.PartText.TheVariants.{Flat, Slope, Pause}
use Rattle.fm_grammar.specs.Score as text
use Rattle.fm_grammar.specs.Score.{shape, phrase}
use Rattle.fm_meaning.specs.Fault.{NumberedFault}
use Rattle.fm_meaning.specs.Rules.{most_blocks, last_rules}
use Rattle.fm_meaning.specs.Resolved.{given, ticks, counted, beat, times, at_most, articulation, loudness, Play, note, rest, choice, loop, par, warp, channel, steady, under, Passage, done, item, Fork, joined, branch}
use Rattle.fm_meaning.specs.Ranges.{share_faults, length_faults, length_spot, number_faults, expr_faults, each_faults, part_faults, second_walk}
use Rattle.fm_meaning.specs.Places.{Depths, outermost, place_faults}
use Rattle.fm_meaning.specs.Bounds.{forks, forks_in, warped_length, fourth_walk}
use Rattle.fm_meaning.proofs.Notation.{column, number_at, word_at, expr_at, put, within, stmt_at, version_at, divided_at}

-- the column and the number of each fault
abbrev told : List NumberedFault → List (ℕ × ℕ)
told faults = map (λ (f : NumberedFault). (f.spot.column, f.number)) faults

-- ---- names and numbers

-- a length of the most ticks, and of more
most_of_a_length : map (λ n. told (share_faults 1920 (number_at 1 n) (number_at 2 6))) (3125 ∷ 3126 ∷ []) ≡ [] ∷ ((1, 7) ∷ []) ∷ []
most_of_a_length = refl

-- the literals of an expression
literals_in_turn : told (expr_faults (expr_at (Literal (MAX_VALUE + 1) ∷ Index 0 ∷ Literal (MAX_VALUE + 1) ∷ []) (1 ∷ 2 ∷ 3 ∷ [])))
    ≡ (1, 7) ∷ (3, 7) ∷ []
literals_in_turn = refl

-- each entry behind the most is one too many, and is looked at all the same
entries_too_many : told (each_faults (number_faults 1 5) Number.spot 1 (number_at 1 0 ∷ number_at 2 9 ∷ number_at 3 5 ∷ []))
    ∷ told (each_faults (length_faults 1920) length_spot 0 (Share (number_at 1 1) (number_at 2 7) ∷ [])) ∷ []
    ≡ ((1, 7) ∷ (2, 7) ∷ (2, 7) ∷ (3, 7) ∷ []) ∷ ((1, 7) ∷ (1, 8) ∷ []) ∷ []
entries_too_many = refl

-- a length that is not whole and of no ticks, then the stretches
parts_in_turn : map (λ part. told (part_faults 1920 part)) (
    Flat (Share (number_at 1 1) (number_at 2 2000)) (number_at 3 0)
    ∷ Slope (Share (number_at 1 1) (number_at 2 2000)) (number_at 3 0) (number_at 4 0) ∷ [])
    ≡ ((1, 8) ∷ (1, 7) ∷ (3, 7) ∷ []) ∷ ((1, 8) ∷ (1, 7) ∷ (3, 7) ∷ (4, 7) ∷ []) ∷ []
parts_in_turn = refl

-- a block on a channel that there is none of, at a column
abbrev misplaced : ℕ → text.Stmt
misplaced c = text.channel (number_at c 16) text.done

-- the version, the names and what stands behind them, statement by statement
entries_in_turn : told (second_walk (version_at 3 (
    shape (word_at 20 (codes "w")) (Pause (Ticks (number_at 21 1000001)) ∷ [])
    ∷ shape (word_at 30 (codes "w")) (Pause (Ticks (number_at 31 1000001)) ∷ [])
    ∷ phrase (word_at 40 (codes "w")) (within (put 41 (misplaced 42) ∷ put 43 (misplaced 44) ∷ []))
    ∷ stmt_at 50 (misplaced 51) ∷ stmt_at 52 (misplaced 53) ∷ [])))
    ≡ (9, 7) ∷ (21, 7) ∷ (30, 5) ∷ (31, 7) ∷ (40, 5) ∷ (42, 7) ∷ (44, 7) ∷ (51, 7) ∷ (53, 7) ∷ []
entries_in_turn = refl

-- the version before the division
head_in_turn : told (second_walk (record (divided_at 5 []) { version = number_at 9 3 })) ≡ (9, 7) ∷ (21, 7) ∷ []
head_in_turn = refl

-- ---- places

-- as many blocks are open as may be, in a choice
abbrev full : Depths
full = record outermost { blocks = most_blocks; in_choice = true }

-- a duration of a rhythm is asked for, at a column
abbrev beaten : ℕ → Passage
beaten c = item (column c) (rest beat) done

-- two branches in which it is
abbrev beaten_branches : Fork
beaten_branches = branch (beaten 2) (branch (beaten 3) joined)

-- the index of a choice, its block too many, then its blocks
choice_in_turn : told (place_faults (column 1) (choice (Index 0 ∷ []) (beaten 2) (beaten 3)) full)
    ≡ (1, 11) ∷ (1, 12) ∷ (2, 10) ∷ (3, 10) ∷ []
choice_in_turn = refl

-- the same of a loop of a computed count
loop_in_turn : told (place_faults (column 1) (loop (at_most (Index 0 ∷ []) 5) (beaten 2)) full)
    ≡ (1, 11) ∷ (1, 12) ∷ (2, 10) ∷ []
loop_in_turn = refl

-- a fork in a choice, its block too many, then its branches
fork_in_turn : told (place_faults (column 1) (par beaten_branches) full) ≡ (1, 9) ∷ (1, 12) ∷ (2, 10) ∷ (3, 10) ∷ []
fork_in_turn = refl

-- a block too many, then what stands in it; articulation and loudness open no rhythm
blocks_in_turn : map (λ play. told (place_faults (column 1) play full)) (warp [] (beaten 2) ∷ channel 0 (beaten 2)
    ∷ steady loudness 64 (beaten 2) ∷ under loudness (64 ∷ []) (beaten 2) ∷ under articulation (90 ∷ []) (beaten 2) ∷ [])
    ≡ ((1, 12) ∷ (2, 10) ∷ []) ∷ ((1, 12) ∷ (2, 10) ∷ []) ∷ ((1, 12) ∷ (2, 10) ∷ []) ∷ ((1, 12) ∷ (2, 10) ∷ [])
    ∷ ((1, 12) ∷ (2, 10) ∷ []) ∷ []
blocks_in_turn = refl

-- a computed duration of a note with the index of no loop
index_in_a_duration : told (place_faults (column 1) (note (given (pos 60) ∷ []) (counted (Index 0 ∷ []) 5)) outermost)
    ≡ (1, 11) ∷ []
index_in_a_duration = refl

-- ---- totals

-- a fork in either block of a choice, and behind another statement
forks_inside : forks (choice [] (item (column 1) (par joined) done) done)
    ∷ forks (choice [] done (item (column 1) (par joined) done)) ∷ forks (choice [] done done)
    ∷ forks_in (item (column 1) (rest beat) (item (column 2) (par joined) done)) ∷ []
    ≡ true ∷ true ∷ false ∷ true ∷ []
forks_inside = refl

-- the last tick is deformed, and what lies behind it stays
warped_at_the_last_tick : map (warped_length (Breath 5 ∷ [])) ((2 ^ 40) ∷ (2 ^ 40 + 1) ∷ []) ≡ (2 ^ 40 + 5) ∷ (2 ^ 40 + 1) ∷ []
warped_at_the_last_tick = refl

-- too long by the longest entry of a rhythm, from the first statement on that passes the limit
too_long_in_turn : told (fourth_walk (last_rules 480) (record {
  seed = 0;
  longest = 2 ^ 40;
  passage = item (column 1) (rest beat) (item (column 2) (rest (ticks 1)) (item (column 3) (rest (ticks 1)) done));
}))
    ≡ (2, 15) ∷ (3, 15) ∷ []
too_long_in_turn = refl
