-- Worked faults of the second walk: numbers beyond both ends of their ranges, lengths, counts and names.
use Rattle.std.proofs.Common.{◌≡◌, ℕ, List, [], ◌∷◌, ◌++◌, map, replicate, refl, pos, negsuc}
use Rattle.std.specs.Prelude.{codes, Option, None}
use Rattle.fm_value.specs.declared.node.Node.TheVariants.{Literal, Add}
use Rattle.fm_grammar.specs.declared.length.Length.{Length}
use Rattle.fm_grammar.specs.declared.length.Length.TheVariants.{Share, Ticks}
use Rattle.fm_grammar.specs.declared.number.Number.{Number}
use Rattle.fm_grammar.specs.declared.part_text.PartText.{PartText}
use Rattle.fm_grammar.specs.declared.part_text.PartText.TheVariants.{Flat, Slope, Pause, Breath}
use Rattle.fm_grammar.specs.Score as text
use Rattle.fm_grammar.specs.Score.{Duration, fixed, Amount, literal, named, keyed, note, play, rest, control, program, bend, set, choice, repeat, again, call, par, warp, channel, volume, gate, rhythm, artic, loud, none, branch, shape, phrase}
use Rattle.fm_meaning.specs.Fault.{NumberedFault}
use Rattle.fm_meaning.specs.Ranges.{second_walk}
use Rattle.fm_meaning.proofs.Notation.{column, number_at, word_at, expr_at, put, within, stmt_at, version_at, divided_at, fault_at, verdict, fault, verdict_on}

-- a score is of version 1 or 2
version_range : map (λ n. verdict (version_at n [])) (0 ∷ 1 ∷ 2 ∷ 3 ∷ []) ≡ fault 9 7 ∷ None ∷ None ∷ fault 9 7 ∷ []
version_range = refl

-- `formula 2; division q;`
division_range : map (λ q. verdict (divided_at q [])) (23 ∷ 24 ∷ 960 ∷ 961 ∷ []) ≡ fault 21 7 ∷ None ∷ None ∷ fault 21 7 ∷ []
division_range = refl

-- a length in a score that states its division: a whole note has four times as many ticks
shares_of_a_division :
    map (λ q. verdict (divided_at q (stmt_at 25 (rest (fixed (Share (number_at 30 1) (number_at 32 64)))) ∷ []))) (96 ∷ 100 ∷ [])
    ≡ None ∷ fault 30 8 ∷ []
shares_of_a_division = refl

-- ---- lengths

-- `rest ticks n;`
ticks_range : map (λ n. verdict_on (rest (fixed (Ticks (number_at 23 n))))) (0 ∷ 1000000 ∷ 1000001 ∷ [])
    ≡ None ∷ None ∷ fault 23 7 ∷ []
ticks_range = refl

-- `rest a/b;`
abbrev verdict_on_share : ℕ × ℕ → Option NumberedFault
verdict_on_share s = verdict_on (rest (fixed (Share (number_at 17 s.0) (number_at 19 s.1))))

-- a quotient by 0, one that is not whole, one that is too great, and both: the second counts; 0 over any is 0
share_faults_in_order :
    map verdict_on_share ((1, 0) ∷ (0, 0) ∷ (0, 7) ∷ (1, 7) ∷ (9000, 7) ∷ (520, 1) ∷ (521, 1) ∷ (3, 1920) ∷ [])
    ≡ fault 17 7 ∷ fault 17 7 ∷ None ∷ fault 17 8 ∷ fault 17 8 ∷ None ∷ fault 17 7 ∷ None ∷ []
share_faults_in_order = refl

-- `formula 1; note c4 1/7;`
seventh_of_a_note : verdict_on (note (named 60 (column 17) ∷ []) (fixed (Share (number_at 20 1) (number_at 22 7))))
    ≡ fault 20 8
seventh_of_a_note = refl

-- a computed duration has a greatest value in the same range
computed_length_range :
    map (λ n. verdict_on (rest (Duration.computed (expr_at (Literal 9 ∷ []) (24 ∷ [])) (number_at 31 n))))
    (0 ∷ 1000000 ∷ 1000001 ∷ [])
    ≡ None ∷ None ∷ fault 31 7 ∷ []
computed_length_range = refl

-- ---- shapes

-- `shape s = ..`
abbrev verdict_on_part : PartText → Option NumberedFault
verdict_on_part part = verdict (version_at 1 (shape (word_at 18 (codes "s")) (part ∷ []) ∷ []))

-- parts with a length have one tick at least, which is tested last; delays may be 0
part_lengths :
    map verdict_on_part (
    Flat (Ticks (number_at 33 0)) (number_at 38 1) ∷ Flat (Ticks (number_at 33 1)) (number_at 38 1)
    ∷ Flat (Ticks (number_at 33 1000001)) (number_at 38 1) ∷ Flat (Share (number_at 33 0) (number_at 35 5)) (number_at 38 1)
    ∷ Flat (Share (number_at 33 1) (number_at 35 4000)) (number_at 38 1)
    ∷ Slope (Ticks (number_at 33 0)) (number_at 38 1) (number_at 43 1)
    ∷ Pause (Ticks (number_at 33 0)) ∷ Breath (Ticks (number_at 33 0))
    ∷ Pause (Ticks (number_at 33 1000001)) ∷ Breath (Share (number_at 33 1) (number_at 35 0)) ∷ [])
    ≡ fault 33 7 ∷ None ∷ fault 33 7 ∷ fault 33 7 ∷ fault 33 8 ∷ fault 33 7 ∷ None ∷ None ∷ fault 33 7 ∷ fault 33 7 ∷ []
part_lengths = refl

-- stretches behind `by` and `to`
stretch_range :
    map (λ n. verdict_on_part (Flat (Ticks (number_at 33 1)) (number_at 38 n))) (0 ∷ 1 ∷ 1000000 ∷ 1000001 ∷ [])
    ++ map (λ n. verdict_on_part (Slope (Ticks (number_at 33 1)) (number_at 38 n) (number_at 43 1))) (0 ∷ 1 ∷ 1000000 ∷ 1000001 ∷ [])
    ++ map (λ n. verdict_on_part (Slope (Ticks (number_at 33 1)) (number_at 38 1) (number_at 43 n))) (0 ∷ 1 ∷ 1000000 ∷ 1000001 ∷ [])
    ≡ fault 38 7 ∷ None ∷ None ∷ fault 38 7 ∷ fault 38 7 ∷ None ∷ None ∷ fault 38 7
    ∷ fault 43 7 ∷ None ∷ None ∷ fault 43 7 ∷ []
stretch_range = refl

-- ---- counts

-- a length at a column, whole or not
abbrev long_list : ℕ → List Length
long_list n = replicate n (Ticks (number_at 20 1)) ++ Share (number_at 90 1) (number_at 92 7) ∷ []

-- a number at a column, twice as great as any may be
abbrev number_list : ℕ → List Number
number_list n = replicate n (number_at 20 1) ++ number_at 90 500 ∷ []

-- 256 entries of a list are none too many; the next one is, and that counts before what it is
entries_of_lists :
    map (λ n. verdict_on (rhythm (long_list n) text.done)) (255 ∷ 256 ∷ [])
    ++ map (λ n. verdict_on (rhythm (replicate n (Ticks (number_at 20 1))) text.done)) (256 ∷ 257 ∷ [])
    ++ map (λ n. verdict_on (artic (replicate n (number_at 20 1)) text.done)) (256 ∷ 257 ∷ [])
    ++ map (λ n. verdict_on (loud (replicate n (number_at 20 1)) text.done)) (256 ∷ 257 ∷ [])
    ++ map (λ n. verdict_on (artic (number_list n) text.done)) (2 ∷ 256 ∷ [])
    ≡ fault 90 8 ∷ fault 90 7 ∷ None ∷ fault 20 7 ∷ None ∷ fault 20 7 ∷ None ∷ fault 20 7 ∷ fault 90 7 ∷ fault 90 7 ∷ []
entries_of_lists = refl

-- 256 parts, of which the next one stands at its length's first number
parts_of_shapes :
    map (λ n. verdict (version_at 1 (shape (word_at 18 (codes "s"))
    (replicate n (Pause (Ticks (number_at 33 1))) ++ Breath (Ticks (number_at 90 1)) ∷ []) ∷ [])))
    (255 ∷ 256 ∷ [])
    ≡ None ∷ fault 90 7 ∷ []
parts_of_shapes = refl

-- 16 pitches; a seventeenth stands at its first token, `key` where it is written by its number
pitches_of_notes :
    map (λ n. verdict_on (play (replicate n (named 60 (column 17)) ++ keyed (literal (pos 200) (column 95)) (column 90) ∷ [])))
    (15 ∷ 16 ∷ [])
    ++ map (λ n. verdict_on (note (replicate n (named 60 (column 17))) (fixed (Ticks (number_at 99 1))))) (16 ∷ 17 ∷ [])
    ≡ fault 95 7 ∷ fault 90 7 ∷ None ∷ fault 17 7 ∷ []
pitches_of_notes = refl

-- ---- ranges of statements

-- `note p ticks 1;`
abbrev verdict_on_pitch : text.Pitch → Option NumberedFault
verdict_on_pitch p = verdict_on (note (p ∷ []) (fixed (Ticks (number_at 40 1))))

-- keys, by their name and by their number
key_range :
    map (λ k. verdict_on_pitch (named k (column 17))) (127 ∷ 128 ∷ [])
    ++ map (λ v. verdict_on_pitch (keyed (literal v (column 21)) (column 17))) (negsuc 0 ∷ pos 0 ∷ pos 127 ∷ pos 128 ∷ [])
    ≡ None ∷ fault 17 7 ∷ fault 21 7 ∷ None ∷ None ∷ fault 21 7 ∷ []
key_range = refl

-- controllers, their values, programs and bends
point_ranges :
    map (λ n. verdict_on (control (number_at 20 n) (literal (pos 1) (column 24)))) (0 ∷ 127 ∷ 128 ∷ [])
    ++ map (λ v. verdict_on (control (number_at 20 1) (literal v (column 24)))) (negsuc 0 ∷ pos 0 ∷ pos 127 ∷ pos 128 ∷ [])
    ++ map (λ v. verdict_on (program (literal v (column 20)))) (negsuc 0 ∷ pos 0 ∷ pos 127 ∷ pos 128 ∷ [])
    ++ map (λ v. verdict_on (bend (literal v (column 17)))) (negsuc 8192 ∷ negsuc 8191 ∷ pos 8191 ∷ pos 8192 ∷ [])
    ≡ None ∷ None ∷ fault 20 7 ∷ fault 24 7 ∷ None ∷ None ∷ fault 24 7
    ∷ fault 20 7 ∷ None ∷ None ∷ fault 20 7 ∷ fault 17 7 ∷ None ∷ None ∷ fault 17 7 ∷ []
point_ranges = refl

-- channels, loudness and articulation, alone and in lists
block_ranges :
    map (λ n. verdict_on (channel (number_at 20 n) text.done)) (0 ∷ 15 ∷ 16 ∷ [])
    ++ map (λ n. verdict_on (volume (number_at 20 n) text.done)) (0 ∷ 1 ∷ 127 ∷ 128 ∷ [])
    ++ map (λ n. verdict_on (gate (number_at 20 n) text.done)) (0 ∷ 400 ∷ 401 ∷ [])
    ++ map (λ n. verdict_on (loud (number_at 20 1 ∷ number_at 23 n ∷ []) text.done)) (0 ∷ 1 ∷ 127 ∷ 128 ∷ [])
    ++ map (λ n. verdict_on (artic (number_at 20 1 ∷ number_at 23 n ∷ []) text.done)) (0 ∷ 400 ∷ 401 ∷ [])
    ≡ None ∷ None ∷ fault 20 7 ∷ fault 20 7 ∷ None ∷ None ∷ fault 20 7 ∷ None ∷ None ∷ fault 20 7
    ∷ fault 23 7 ∷ None ∷ None ∷ fault 23 7 ∷ None ∷ None ∷ fault 23 7 ∷ []
block_ranges = refl

-- counts of loops, written out and computed
count_ranges :
    map (λ n. verdict_on (repeat (number_at 19 n) text.done)) (0 ∷ 1000000 ∷ 1000001 ∷ [])
    ++ map (λ n. verdict_on (again (expr_at (Literal 1 ∷ []) (20 ∷ [])) (number_at 27 n) text.done)) (0 ∷ 1000000 ∷ 1000001 ∷ [])
    ≡ None ∷ None ∷ fault 19 7 ∷ None ∷ None ∷ fault 27 7 ∷ []
count_ranges = refl

-- numbers of expressions, each at its own spot
literal_range :
    map (λ n. verdict_on (set 0 (expr_at (Literal 1 ∷ Literal n ∷ Add ∷ []) (21 ∷ 25 ∷ 23 ∷ [])))) (0 ∷ 1000000 ∷ 1000001 ∷ [])
    ≡ None ∷ None ∷ fault 25 7 ∷ []
literal_range = refl

-- ---- names

-- a shape or a phrase called a
abbrev shape_a : ℕ → text.Entry
shape_a c = shape (word_at c (codes "a")) (Pause (Ticks (number_at 38 1)) ∷ [])

abbrev phrase_a : ℕ → text.Entry
phrase_a c = phrase (word_at c (codes "a")) text.done

-- `do name;` and `warp name { }`
abbrev do_at : ℕ → List ℕ → text.Stmt
do_at c letters = call (word_at c letters)

abbrev warp_at : ℕ → List ℕ → text.Stmt
warp_at c letters = warp (word_at c letters) text.done

-- shapes and phrases share their names
double_names :
    map (λ es. verdict (version_at 1 es)) (
    (shape_a 18 ∷ phrase_a 44 ∷ []) ∷ (phrase_a 19 ∷ shape_a 44 ∷ []) ∷ (shape_a 18 ∷ shape_a 44 ∷ [])
    ∷ (phrase_a 19 ∷ phrase_a 44 ∷ []) ∷ (shape_a 18 ∷ phrase (word_at 44 (codes "b")) text.done ∷ []) ∷ [])
    ≡ fault 44 5 ∷ fault 44 5 ∷ fault 44 5 ∷ fault 44 5 ∷ None ∷ []
double_names = refl

-- `do` wants an earlier phrase, `warp` an earlier shape; a phrase is not defined within itself
unknown_names :
    map (λ es. verdict (version_at 1 es)) (
    (stmt_at 12 (do_at 15 (codes "x")) ∷ []) ∷ (phrase_a 19 ∷ stmt_at 30 (do_at 33 (codes "a")) ∷ [])
    ∷ (stmt_at 12 (do_at 15 (codes "a")) ∷ phrase_a 30 ∷ []) ∷ (shape_a 18 ∷ stmt_at 44 (do_at 47 (codes "a")) ∷ [])
    ∷ (phrase (word_at 19 (codes "a")) (within (put 23 (do_at 26 (codes "a")) ∷ [])) ∷ [])
    ∷ (stmt_at 12 (warp_at 17 (codes "x")) ∷ []) ∷ (shape_a 18 ∷ stmt_at 44 (warp_at 49 (codes "a")) ∷ [])
    ∷ (phrase_a 19 ∷ stmt_at 30 (warp_at 35 (codes "a")) ∷ []) ∷ (shape_a 18 ∷ stmt_at 44 (warp_at 49 (codes "aa")) ∷ []) ∷ [])
    ≡ fault 15 6 ∷ None ∷ fault 15 6 ∷ fault 47 6 ∷ fault 26 6 ∷ fault 17 6 ∷ None ∷ fault 35 6 ∷ fault 49 6 ∷ []
unknown_names = refl

-- ---- all faults

-- `do` of a name that nothing defines, at a column
abbrev lost : ℕ → text.Body
lost c = within (put c (do_at c (codes "x")) ∷ [])

-- every kind of block is walked through, in the order of the text, and so is a phrase that nothing brings in
each_block_is_walked :
    second_walk (version_at 1 (
    phrase (word_at 19 (codes "p")) (lost 1)
    ∷ stmt_at 30 (choice (expr_at (Literal 2000000 ∷ []) (2 ∷ [])) (lost 3) (lost 4))
    ∷ stmt_at 31 (repeat (number_at 5 2000000) (lost 6))
    ∷ stmt_at 32 (again (expr_at (Literal 2000000 ∷ []) (7 ∷ [])) (number_at 8 2000000) (lost 9))
    ∷ stmt_at 33 (par (branch (lost 10) (branch (lost 11) none)))
    ∷ stmt_at 34 (warp (word_at 12 (codes "x")) (lost 13))
    ∷ stmt_at 35 (channel (number_at 14 99) (lost 15)) ∷ stmt_at 36 (volume (number_at 16 200) (lost 17))
    ∷ stmt_at 37 (gate (number_at 18 999) (lost 19))
    ∷ stmt_at 38 (rhythm (Ticks (number_at 20 2000000) ∷ Ticks (number_at 21 2000000) ∷ []) (lost 22))
    ∷ stmt_at 39 (artic (number_at 23 999 ∷ []) (lost 24)) ∷ stmt_at 40 (loud (number_at 25 200 ∷ []) (lost 26))
    ∷ stmt_at 41 (note (keyed (Amount.computed (expr_at (Literal 2000000 ∷ []) (27 ∷ []))) (column 27) ∷ [])
    (Duration.computed (expr_at (Literal 2000000 ∷ []) (28 ∷ [])) (number_at 29 2000000)))
    ∷ stmt_at 42 (control (number_at 30 200) (Amount.computed (expr_at (Literal 2000000 ∷ []) (31 ∷ []))))
    ∷ []))
    ≡ fault_at 1 6 ∷ fault_at 2 7 ∷ fault_at 3 6 ∷ fault_at 4 6 ∷ fault_at 5 7 ∷ fault_at 6 6 ∷ fault_at 7 7 ∷ fault_at 8 7
    ∷ fault_at 9 6 ∷ fault_at 10 6 ∷ fault_at 11 6 ∷ fault_at 12 6 ∷ fault_at 13 6 ∷ fault_at 14 7 ∷ fault_at 15 6
    ∷ fault_at 16 7 ∷ fault_at 17 6 ∷ fault_at 18 7 ∷ fault_at 19 6 ∷ fault_at 20 7 ∷ fault_at 21 7 ∷ fault_at 22 6
    ∷ fault_at 23 7 ∷ fault_at 24 6 ∷ fault_at 25 7 ∷ fault_at 26 6 ∷ fault_at 27 7 ∷ fault_at 28 7 ∷ fault_at 29 7
    ∷ fault_at 30 7 ∷ fault_at 31 7 ∷ []
each_block_is_walked = refl
