-- Worked scores with faults of two walks, of which the earlier walk's stands later in the text: it is the first fault.
use Rattle.std.proofs.Common.{◌≡◌, [], ◌∷◌, refl}
use Rattle.std.specs.Prelude.{codes}
use Rattle.fm_value.specs.declared.node.Node.TheVariants.{Literal}
use Rattle.fm_grammar.specs.declared.length.Length.TheVariants.{Ticks}
use Rattle.fm_grammar.specs.Score as text
use Rattle.fm_grammar.specs.Score.{Stmt, fixed, named, note, skip, choice, repeat, call, par, channel, none, branch}
use Rattle.fm_meaning.proofs.Notation.{column, number_at, word_at, expr_at, put, within, stmt_at, version_at, verdict, fault}

-- `repeat 1000000 { note c4, d4, e4 ticks 0; }` at column 12: more events than there may be
abbrev many_events : Stmt
many_events = repeat (number_at 19 1000000) (within (put 29 (note (named 60 (column 34) ∷ named 62 (column 38) ∷ named 64
    (column 42) ∷ []) (fixed (Ticks (number_at 51 0)))) ∷ []))

-- `repeat 2048 { par { branch { } } }` at column 12: more processes than there may be
abbrev many_processes : Stmt
many_processes = repeat (number_at 19 2048) (within (put 26 (par (branch text.done none)) ∷ []))

-- a name, behind a statement that stands where it cannot
--   skip; do x;
name_behind_place : verdict (version_at 1 (stmt_at 12 skip ∷ stmt_at 18 (call (word_at 21 (codes "x"))) ∷ []))
    ≡ fault 21 6
name_behind_place = refl

-- a name, behind a statement that passes a limit
--   repeat 1000000 { note c4, d4, e4 ticks 0; } do x;
name_behind_total : verdict (version_at 1 (stmt_at 12 many_events ∷ stmt_at 56 (call (word_at 59 (codes "x"))) ∷ []))
    ≡ fault 59 6
name_behind_total = refl

-- a number, behind a statement that passes a limit
--   repeat 2048 { par { branch { } } } channel 16 { }
number_behind_total : verdict (version_at 1 (stmt_at 12 many_processes ∷ stmt_at 47 (channel (number_at 55 16) text.done)
    ∷ [])) ≡ fault 55 7
number_behind_total = refl

-- a statement that stands where it cannot, behind one that passes a limit
--   repeat 1000000 { note c4, d4, e4 ticks 0; } skip;
place_behind_total : verdict (version_at 1 (stmt_at 12 many_events ∷ stmt_at 56 skip ∷ [])) ≡ fault 56 10
place_behind_total = refl

-- the same with a fork
--   repeat 2048 { par { branch { } } } if 1 { par { branch { } } }
fork_behind_total : verdict (version_at 1 (stmt_at 12 many_processes ∷ stmt_at 47 (choice (expr_at (Literal 1 ∷ []) (50
    ∷ [])) (within (put 54 (par (branch text.done none)) ∷ [])) text.done) ∷ [])) ≡ fault 54 9
fork_behind_total = refl

-- faults of all three walks
--   repeat 1000000 { note c4, d4, e4 ticks 0; } skip; do x;
name_behind_both : verdict (version_at 1 (stmt_at 12 many_events ∷ stmt_at 56 skip ∷ stmt_at 62 (call (word_at 65 (codes
    "x"))) ∷ [])) ≡ fault 65 6
name_behind_both = refl
