-- Worked rules of versions, and stretches and entries at the ends of their ranges.
use Rattle.std.proofs.Common.{◌≡◌, ℕ, [], ◌∷◌, map, true, false, refl}
use Rattle.std.specs.Prelude.{None, Some}
use Rattle.fm_grammar.specs.Score as text
use Rattle.fm_grammar.specs.Score.{fixed, rest, choice, rhythm, par, none, branch}
use Rattle.fm_value.specs.declared.node.Node.TheVariants.{Literal}
use Rattle.fm_meaning.specs.Rules.{score_rules, profile_of}
use Rattle.fm_meaning.specs.Resolve.{stretch_of, resolved}
use Rattle.fm_meaning.proofs.Notation.{number, share, tick, expr, block, stmt, score}

-- `formula 2; division n;`
abbrev divided : ℕ → text.Score
divided n = record { version = number 2; division = Some (number n); seed = None; entries = [] }

-- the first version writes each status byte
rules_of_version_1 : score_rules (score [])
    ≡ record { profile = record { running = false; division = 480 }; whole_note = 1920; most_processes = 4096 }
rules_of_version_1 = refl

-- the second one leaves them out
rules_of_version_2 : score_rules (record { version = number 2; division = None; seed = None; entries = [] })
    ≡ record { profile = record { running = true; division = 480 }; whole_note = 1920; most_processes = 16384 }
rules_of_version_2 = refl

-- the division that a score states counts within its range
stated_divisions : map (λ n. (profile_of (divided n)).division) (0 ∷ 24 ∷ 25 ∷ 959 ∷ 960 ∷ 10000 ∷ [])
    ≡ 24 ∷ 24 ∷ 25 ∷ 959 ∷ 960 ∷ 960 ∷ []
unfolding profile_of
stated_divisions = refl

-- a stretch is at least 1 and at most 1,000,000 thousandths
nearest_stretches : map (λ n. (stretch_of n).thousandths) (0 ∷ 1 ∷ 2 ∷ 999999 ∷ 1000000 ∷ 2000000 ∷ [])
    ≡ 1 ∷ 1 ∷ 2 ∷ 999999 ∷ 1000000 ∷ 1000000 ∷ []
nearest_stretches = refl

-- without a rhythm the longest entry is 0
--   par { branch { rest ticks 5; } }
no_entry_of_a_rhythm : (resolved (score (stmt (par (branch (block (rest (fixed (tick 5)) ∷ [])) none)) ∷ []))).longest ≡ 0
no_entry_of_a_rhythm = refl

-- `rhythm [1/n] { }` in one block of a choice and `rhythm [1/m] { }` in the other
abbrev either_rhythm : ℕ → ℕ → text.Score
either_rhythm n m = score (stmt (choice (expr (Literal 1 ∷ [])) (block (rhythm (share 1 n ∷ []) (block []) ∷ []))
    (block (rhythm (share 1 m ∷ []) (block []) ∷ []))) ∷ [])

-- the longer one counts, in whichever block it stands
longest_of_a_choice : (resolved (either_rhythm 4 8)).longest ∷ (resolved (either_rhythm 8 4)).longest ∷ [] ≡ 480 ∷ 480 ∷ []
longest_of_a_choice = refl
