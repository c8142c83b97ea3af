-- Worked scores: notes that sound on past the next ones of their process.
use Rattle.std.proofs.Common.{◌≡◌, ℕ, [], ◌∷◌, ◌++◌, map, refl, pos}
use Rattle.std.specs.Prelude.{codes, List}
use Rattle.fm_msg.specs.declared.msg.Msg.TheVariants.{On, Off, Control, Program}
use Rattle.fm_tick.specs.Quotient.{flat_of}
use Rattle.fm_grammar.specs.declared.part_text.PartText.TheVariants.{Flat, Pause, Breath}
use Rattle.fm_grammar.specs.Score.{fixed, literal, control, program, note, rest, warp, gate, artic, shape, par, branch, none}
use Rattle.fm_meaning.proofs.Notation.{somewhere, number, word, share, tick, keys, block, stmt, score, voice, heard}

-- the first note sounds on through the second, which is cut at the end of the process
--   gate 200 { note c4 1/4; note d4 1/4; }
two_notes : heard (score (stmt (gate (number 200) (block (note (keys (60 ∷ [])) (fixed (share 1 4))
    ∷ note (keys (62 ∷ [])) (fixed (share 1 4)) ∷ []))) ∷ []))
    ≡ voice 0 [] 960 ((0, On 0 60 64) ∷ (480, On 0 62 64) ∷ (960, Off 0 60) ∷ (960, Off 0 62) ∷ []) ∷ []
two_notes = refl

-- sixteen note-offs wait: the next note cuts the first of them
--   gate 400 { note P ticks 10; note e5 ticks 10; }
sixteen : List ℕ
sixteen = 48 ∷ 50 ∷ 52 ∷ 53 ∷ 55 ∷ 57 ∷ 59 ∷ 60 ∷ 62 ∷ 64 ∷ 65 ∷ 67 ∷ 69 ∷ 71 ∷ 72 ∷ 74 ∷ []

later : List ℕ
later = 50 ∷ 52 ∷ 53 ∷ 55 ∷ 57 ∷ 59 ∷ 60 ∷ 62 ∷ 64 ∷ 65 ∷ 67 ∷ 69 ∷ 71 ∷ 72 ∷ 74 ∷ 76 ∷ []

sixteen_and_one : heard (score (stmt (gate (number 400) (block (note (keys sixteen) (fixed (tick 10))
    ∷ note (keys (76 ∷ [])) (fixed (tick 10)) ∷ []))) ∷ []))
    ≡ voice 0 [] 20 (map (λ k. (0, On 0 k 64)) sixteen ++ (10, Off 0 48) ∷ (10, On 0 76 64) ∷ map (λ k. (20, Off 0 k)) later) ∷ []
unfolding sixteen later
sixteen_and_one = refl

-- a note sounds on past the level in which it stands: its end, 40, lies at 5 + 30
--   shape s = flat ticks 10 by 500; gate 400 { warp s { note c4 ticks 10; } rest ticks 100; }
past_its_level : heard (score (shape (word (codes "s")) (Flat (tick 10) (number 500) ∷ [])
    ∷ stmt (gate (number 400) (block (warp (word (codes "s")) (block (note (keys (60 ∷ [])) (fixed (tick 10)) ∷ []))
    ∷ rest (fixed (tick 100)) ∷ []))) ∷ []))
    ≡ voice 0 [] 105 ((0, On 0 60 64) ∷ (35, Off 0 60) ∷ []) ∷ []
unfolding flat_of
past_its_level = refl

-- a point lets a note-off out that is due at its tick, and cuts none
--   gate 200 { note c4 ticks 10; rest ticks 10; control 7 1; note d4 ticks 10; control 7 2; }
points : heard (score (stmt (gate (number 200) (block (note (keys (60 ∷ [])) (fixed (tick 10)) ∷ rest (fixed (tick 10))
    ∷ control (number 7) (literal (pos 1) somewhere) ∷ note (keys (62 ∷ [])) (fixed (tick 10))
    ∷ control (number 7) (literal (pos 2) somewhere) ∷ []))) ∷ []))
    ≡ voice 0 [] 30 ((0, On 0 60 64) ∷ (20, Off 0 60) ∷ (20, Control 0 7 1) ∷ (20, On 0 62 64) ∷ (30, Control 0 7 2)
    ∷ (30, Off 0 62) ∷ []) ∷ []
points = refl

-- a fork cuts what waits
--   gate 400 { note c4 ticks 10; par { branch { note d4 ticks 10; } } }
fork : heard (score (stmt (gate (number 400) (block (note (keys (60 ∷ [])) (fixed (tick 10))
    ∷ par (branch (block (note (keys (62 ∷ [])) (fixed (tick 10)) ∷ [])) none) ∷ []))) ∷ []))
    ≡ voice 0 [] 10 ((0, On 0 60 64) ∷ (10, Off 0 60) ∷ [])
    ∷ voice 1 (0 ∷ []) 20 ((10, On 0 62 64) ∷ (20, Off 0 62) ∷ [])
    ∷ voice 2 (1 ∷ []) 20 [] ∷ []
fork = refl

-- two notes of one key, each with its own note-off
--   gate 200 { note c4 ticks 10; note c4 ticks 10; } rest ticks 20;
one_key : heard (score (stmt (gate (number 200) (block (note (keys (60 ∷ [])) (fixed (tick 10))
    ∷ note (keys (60 ∷ [])) (fixed (tick 10)) ∷ []))) ∷ stmt (rest (fixed (tick 20))) ∷ []))
    ≡ voice 0 [] 40 ((0, On 0 60 64) ∷ (10, On 0 60 64) ∷ (20, Off 0 60) ∷ (30, Off 0 60) ∷ []) ∷ []
one_key = refl

-- what is due earlier comes out earlier, whichever began first
--   artic [300, 50] { note c4 ticks 10; note d4 ticks 10; rest ticks 20; }
due_earlier : heard (score (stmt (artic (number 300 ∷ number 50 ∷ []) (block (note (keys (60 ∷ [])) (fixed (tick 10))
    ∷ note (keys (62 ∷ [])) (fixed (tick 10)) ∷ rest (fixed (tick 20)) ∷ []))) ∷ []))
    ≡ voice 0 [] 40 ((0, On 0 60 64) ∷ (10, On 0 62 64) ∷ (15, Off 0 62) ∷ (30, Off 0 60) ∷ []) ∷ []
due_earlier = refl

-- a pause lengthens a note that sounds on over it, and what follows it sounds on past the level
--   shape w = flat ticks 10 by 1000, pause ticks 5;
--   gate 200 { warp w { note c4 ticks 10; note d4 ticks 10; } rest ticks 20; }
over_a_pause : heard (score (shape (word (codes "w")) (Flat (tick 10) (number 1000) ∷ Pause (tick 5) ∷ [])
    ∷ stmt (gate (number 200) (block (warp (word (codes "w")) (block (note (keys (60 ∷ [])) (fixed (tick 10))
    ∷ note (keys (62 ∷ [])) (fixed (tick 10)) ∷ [])) ∷ rest (fixed (tick 20)) ∷ []))) ∷ []))
    ≡ voice 0 [] 45 ((0, On 0 60 64) ∷ (15, On 0 62 64) ∷ (25, Off 0 60) ∷ (35, Off 0 62) ∷ []) ∷ []
unfolding flat_of
over_a_pause = refl

-- as does a breath
--   shape b = flat ticks 10 by 1000, breath ticks 5;
--   artic [150, 100] { warp b { note c4 ticks 10; note d4 ticks 10; } rest ticks 10; }
over_a_breath : heard (score (shape (word (codes "b")) (Flat (tick 10) (number 1000) ∷ Breath (tick 5) ∷ [])
    ∷ stmt (artic (number 150 ∷ number 100 ∷ []) (block (warp (word (codes "b")) (block (note (keys (60 ∷ [])) (fixed (tick 10))
    ∷ note (keys (62 ∷ [])) (fixed (tick 10)) ∷ [])) ∷ rest (fixed (tick 10)) ∷ []))) ∷ []))
    ≡ voice 0 [] 35 ((0, On 0 60 64) ∷ (15, On 0 62 64) ∷ (20, Off 0 60) ∷ (25, Off 0 62) ∷ []) ∷ []
unfolding flat_of
over_a_breath = refl

-- a note of three pitches cuts two of fifteen
--   gate 400 { note c3, d3, e3, f3, g3, a3, b3, c4, d4, e4, f4, g4, a4, b4, c5 ticks 10; note e5, f5, g5 ticks 10; }
fifteen : List ℕ
fifteen = 48 ∷ 50 ∷ 52 ∷ 53 ∷ 55 ∷ 57 ∷ 59 ∷ 60 ∷ 62 ∷ 64 ∷ 65 ∷ 67 ∷ 69 ∷ 71 ∷ 72 ∷ []

kept : List ℕ
kept = 52 ∷ 53 ∷ 55 ∷ 57 ∷ 59 ∷ 60 ∷ 62 ∷ 64 ∷ 65 ∷ 67 ∷ 69 ∷ 71 ∷ 72 ∷ 76 ∷ 77 ∷ 79 ∷ []

fifteen_and_three : heard (score (stmt (gate (number 400) (block (note (keys fifteen) (fixed (tick 10))
    ∷ note (keys (76 ∷ 77 ∷ 79 ∷ [])) (fixed (tick 10)) ∷ []))) ∷ []))
    ≡ voice 0 [] 20 (map (λ k. (0, On 0 k 64)) fifteen ++ (10, Off 0 48) ∷ (10, Off 0 50) ∷ (10, On 0 76 64) ∷ (10, On 0 77 64)
    ∷ (10, On 0 79 64) ∷ map (λ k. (20, Off 0 k)) kept) ∷ []
unfolding fifteen kept
fifteen_and_three = refl

-- a point cuts none, and the end of the process all
--   gate 400 { note P ticks 10; program 5; }
full_at_the_end : heard (score (stmt (gate (number 400) (block (note (keys sixteen) (fixed (tick 10))
    ∷ program (literal (pos 5) somewhere) ∷ []))) ∷ []))
    ≡ voice 0 [] 10 (map (λ k. (0, On 0 k 64)) sixteen ++ (10, Program 0 5) ∷ map (λ k. (10, Off 0 k)) sixteen) ∷ []
unfolding sixteen
full_at_the_end = refl
