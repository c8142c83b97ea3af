-- Worked marks: what is played before it is parted into lines.
use Rattle.std.proofs.Common.{◌≡◌, ℕ, ◌+◌, ◌^◌, [], ◌∷◌, length, map, refl}
use Rattle.fm_value.specs.declared.node.Node.TheVariants.{Index}
use Rattle.fm_msg.specs.declared.msg.Msg.TheVariants.{On, Off, Control}
use Rattle.fm_line.specs.Marks.{Mark}
use Rattle.fm_grammar.specs.Score.{fixed, Amount, note, rest, control, repeat, par, none, branch}
use Rattle.fm_meaning.specs.Resolve.{resolved}
use Rattle.fm_meaning.specs.Resolved.{beat}
use Rattle.fm_meaning.specs.State.{Now, started, span_drawn}
use Rattle.fm_meaning.specs.Played.{sent, score_plays}
use Rattle.fm_meaning.proofs.Notation.{number, tick, keys, expr, block, stmt, score, voice, heard}

-- before anything is played
abbrev at_first : Now
at_first = started (record { seed = 0; channel = 0 }) [] 0 [] []

-- eight registers
registers_at_first : length at_first.registers ≡ 8
registers_at_first = refl

-- the generator begins at the seed and the number of the process, in 64 bits
dice_at_first : map (λ seed. (started (record { seed = seed; channel = 0 }) [] 0 [] ([] ∷ [])).dice) (7 ∷ 2 ^ 63 ∷ (2 ^ 64 + 5) ∷ [])
    ≡ 8 ∷ (2 ^ 63 + 1) ∷ 6 ∷ []
dice_at_first = refl

-- where no rhythm is open a duration of it is 0
no_rhythm : (span_drawn beat at_first).value ≡ 0
no_rhythm = refl

-- messages in turn are numbered in turn
numbered_in_turn : map Mark.index (sent (On 0 60 64 ∷ On 0 64 64 ∷ On 0 67 64 ∷ []) 0 at_first).marks ≡ 0 ∷ 1 ∷ 2 ∷ []
numbered_in_turn = refl

-- the marks of a process end with the mark of its end, and branches come in turn
--   par { branch { note c4 ticks 9; } branch { rest ticks 9; } }
marks_in_turn : map Mark.process (score_plays (resolved (score (stmt (par (branch (block (note (keys (60 ∷ []))
    (fixed (tick 9)) ∷ [])) (branch (block (rest (fixed (tick 9)) ∷ [])) none))) ∷ [])))).marks
    ≡ 0 ∷ 1 ∷ 1 ∷ 1 ∷ 2 ∷ 3 ∷ []
marks_in_turn = refl

-- the index of a loop goes up by one each round
--   repeat 3 { control 7 (n0); }
index_of_each_round : heard (score (stmt (repeat (number 3) (block (control (number 7) (Amount.computed (expr (Index 0 ∷ [])))
    ∷ []))) ∷ []))
    ≡ voice 0 [] 0 ((0, Control 0 7 0) ∷ (0, Control 0 7 1) ∷ (0, Control 0 7 2) ∷ []) ∷ []
index_of_each_round = refl
