-- Texts with the fault at which they are refused, by computing.
use Rattle.std.proofs.Common.{◌≡◌, ℕ, zero, suc, List, [], ◌∷◌, ◌++◌, refl}
use Rattle.std.specs.Prelude.{codes}
use Rattle.fm_lex.specs.Tokens.{walk}
use Rattle.fm_grammar.specs.Table.{trip}
use Rattle.fm_grammar.proofs.Verdicts.{verdict}

abbrev repeated : ℕ → List ℕ → List ℕ → List ℕ
repeated zero text more = more
repeated (suc n) text more = text ++ repeated n text more

-- a text behind so many open blocks
abbrev deep : ℕ → List ℕ → List ℕ
deep n more = codes "formula 1; " ++ repeated n (codes "if 1 {") more

-- an expression behind so many signs
abbrev signs : ℕ → List ℕ → List ℕ
signs n more = codes "formula 1; set r0 = " ++ repeated n (codes "-") more

blocks_65 : verdict (deep 65 []) ∷ [] ≡ (4, 396) ∷ []
unfolding walk trip
blocks_65 = refl

signs_63_and_64 : verdict (signs 63 (codes "1;")) ∷ verdict (signs 64 (codes "1;")) ∷ [] ≡ (0, 0) ∷ (4, 84) ∷ []
unfolding walk trip
signs_63_and_64 = refl

unfinished :
    verdict (codes "formula 1; note c4,") ∷ verdict (codes "") ∷ verdict (codes "formula 1; note c4 1/4; }") ∷ []
    ≡ (3, 20) ∷ (3, 1) ∷ (3, 25) ∷ []
unfolding walk trip
unfinished = refl

no_token :
    verdict (codes "formula 1; Note") ∷ verdict (codes "formula 1x;") ∷ verdict (codes "formula 1A") ∷ verdict (codes "formula 1a") ∷ []
    ≡ (1, 12) ∷ (2, 9) ∷ (1, 10) ∷ (2, 9) ∷ []
unfolding walk trip
no_token = refl

-- a fault of the tokens counts only where all tokens before it can stand
token_before_fault : verdict (codes "formula 1; note 5A") ∷ verdict (codes "formula 1; note c4 1/4 # A") ∷ [] ≡ (3, 17) ∷ (3, 27) ∷ []
unfolding walk trip
token_before_fault = refl

-- a division stands behind version 2, by its value
versions :
    verdict (codes "formula 2;") ∷ verdict (codes "formula 2; division 96;") ∷ verdict (codes "formula 02; division 96; seed 1;")
    ∷ verdict (codes "formula 3; division 96;") ∷ verdict (codes "formula 1; division 96;") ∷ verdict (codes "formula 0;")
    ∷ verdict (codes "formula 2; divisions 96;") ∷ verdict (codes "formula 2; seed 1; division 96;")
    ∷ verdict (codes "formula 2; division 96; division 96;") ∷ verdict (codes "formula 2; division;")
    ∷ verdict (codes "formula 2; division 96 note") ∷ verdict (codes "formula 2; division") ∷ verdict (codes "formula 2 division 96;") ∷ []
    ≡ (0, 0) ∷ (0, 0) ∷ (0, 0) ∷ (3, 12) ∷ (3, 12) ∷ (0, 0) ∷ (3, 12) ∷ (3, 20) ∷ (3, 25) ∷ (3, 20) ∷ (3, 24) ∷ (3, 20) ∷ (3, 11) ∷ []
unfolding walk trip
versions = refl

-- `division` is a name elsewhere
division_is_a_name :
    verdict (codes "formula 1; phrase division { } do division;")
    ∷ verdict (codes "formula 2; shape division = pause 1/8; warp division { }") ∷ []
    ≡ (0, 0) ∷ (0, 0) ∷ []
unfolding walk trip
division_is_a_name = refl

-- the parentheses round the test of an `if` count, those of an amount, a duration and a count do not
parentheses_of_test :
    verdict (codes "formula 1; if " ++ repeated 31 (codes "(") (codes "1" ++ repeated 31 (codes ")") (codes " { }"))) ∷ verdict
    (codes "formula 1; if " ++ repeated 32 (codes "(") (codes "1" ++ repeated 32 (codes ")") (codes " { }"))) ∷ []
    ≡ (0, 0) ∷ (4, 46) ∷ []
unfolding walk trip
parentheses_of_test = refl

parentheses_of_amount :
    verdict (codes "formula 1; program (" ++ repeated 63 (codes "-") (codes "1);")) ∷ verdict
    (codes "formula 1; program (" ++ repeated 64 (codes "-") (codes "1);")) ∷ []
    ≡ (0, 0) ∷ (4, 84) ∷ []
unfolding walk trip
parentheses_of_amount = refl

parentheses_of_duration :
    verdict (codes "formula 1; rest ticks (" ++ repeated 63 (codes "-") (codes "1) max 5;")) ∷ verdict
    (codes "formula 1; rest ticks (" ++ repeated 64 (codes "-") (codes "1) max 5;")) ∷ []
    ≡ (0, 0) ∷ (4, 87) ∷ []
unfolding walk trip
parentheses_of_duration = refl

parentheses_of_count :
    verdict (codes "formula 1; repeat (" ++ repeated 63 (codes "-") (codes "1) max 5 { }")) ∷ verdict
    (codes "formula 1; repeat (" ++ repeated 64 (codes "-") (codes "1) max 5 { }")) ∷ []
    ≡ (0, 0) ∷ (4, 83) ∷ []
unfolding walk trip
parentheses_of_count = refl

-- ---- the last place at which each word with a block can stand, and the first one at which it can't

block_if : verdict (deep 63 (codes "if 1")) ∷ verdict (deep 64 (codes "if 1")) ∷ [] ≡ (3, 394) ∷ (4, 396) ∷ []
unfolding walk trip
block_if = refl

block_repeat : verdict (deep 63 (codes "repeat 2")) ∷ verdict (deep 64 (codes "repeat 2")) ∷ [] ≡ (3, 398) ∷ (4, 396) ∷ []
unfolding walk trip
block_repeat = refl

block_repeat_computed :
    verdict (deep 63 (codes "repeat (1) max 2")) ∷ verdict (deep 64 (codes "repeat (1) max 2")) ∷ []
    ≡ (3, 406) ∷ (4, 396) ∷ []
unfolding walk trip
block_repeat_computed = refl

block_warp : verdict (deep 63 (codes "warp w")) ∷ verdict (deep 64 (codes "warp w")) ∷ [] ≡ (3, 396) ∷ (4, 396) ∷ []
unfolding walk trip
block_warp = refl

block_channel : verdict (deep 63 (codes "channel 1")) ∷ verdict (deep 64 (codes "channel 1")) ∷ [] ≡ (3, 399) ∷ (4, 396) ∷ []
unfolding walk trip
block_channel = refl

block_volume : verdict (deep 63 (codes "volume 1")) ∷ verdict (deep 64 (codes "volume 1")) ∷ [] ≡ (3, 398) ∷ (4, 396) ∷ []
unfolding walk trip
block_volume = refl

block_gate : verdict (deep 63 (codes "gate 1")) ∷ verdict (deep 64 (codes "gate 1")) ∷ [] ≡ (3, 396) ∷ (4, 396) ∷ []
unfolding walk trip
block_gate = refl

block_rhythm : verdict (deep 63 (codes "rhythm [1/4]")) ∷ verdict (deep 64 (codes "rhythm [1/4]")) ∷ [] ≡ (3, 402) ∷ (4, 396) ∷ []
unfolding walk trip
block_rhythm = refl

block_artic : verdict (deep 63 (codes "artic [1]")) ∷ verdict (deep 64 (codes "artic [1]")) ∷ [] ≡ (3, 399) ∷ (4, 396) ∷ []
unfolding walk trip
block_artic = refl

block_loud : verdict (deep 63 (codes "loud [1]")) ∷ verdict (deep 64 (codes "loud [1]")) ∷ [] ≡ (3, 398) ∷ (4, 396) ∷ []
unfolding walk trip
block_loud = refl

block_par : verdict (deep 62 (codes "par { branch {")) ∷ verdict (deep 63 (codes "par { branch {")) ∷ [] ≡ (3, 398) ∷ (4, 390) ∷ []
unfolding walk trip
block_par = refl

block_else : verdict (deep 63 (codes "if 1 { } else {")) ∷ [] ≡ (3, 405) ∷ []
unfolding walk trip
block_else = refl

-- ---- and each token of an expression that needs others behind it

word_min : verdict (signs 58 (codes "min(1,1)")) ∷ verdict (signs 59 (codes "min(1,1)")) ∷ [] ≡ (3, 87) ∷ (4, 80) ∷ []
unfolding walk trip
word_min = refl

word_max : verdict (signs 58 (codes "max(1,1)")) ∷ verdict (signs 59 (codes "max(1,1)")) ∷ [] ≡ (3, 87) ∷ (4, 80) ∷ []
unfolding walk trip
word_max = refl

word_less : verdict (signs 58 (codes "less(1,1)")) ∷ verdict (signs 59 (codes "less(1,1)")) ∷ [] ≡ (3, 88) ∷ (4, 80) ∷ []
unfolding walk trip
word_less = refl

word_same : verdict (signs 58 (codes "same(1,1)")) ∷ verdict (signs 59 (codes "same(1,1)")) ∷ [] ≡ (3, 88) ∷ (4, 80) ∷ []
unfolding walk trip
word_same = refl

word_pick : verdict (signs 60 (codes "pick(1)")) ∷ verdict (signs 61 (codes "pick(1)")) ∷ [] ≡ (3, 88) ∷ (4, 82) ∷ []
unfolding walk trip
word_pick = refl

parenthesis : verdict (signs 61 (codes "(1)")) ∷ verdict (signs 62 (codes "(1)")) ∷ [] ≡ (3, 85) ∷ (4, 83) ∷ []
unfolding walk trip
parenthesis = refl

minus : verdict (signs 62 (codes "-1")) ∷ verdict (signs 63 (codes "-1")) ∷ [] ≡ (3, 85) ∷ (4, 84) ∷ []
unfolding walk trip
minus = refl

operator_plus : verdict (signs 61 (codes "1+1")) ∷ verdict (signs 62 (codes "1+1")) ∷ [] ≡ (3, 85) ∷ (4, 84) ∷ []
unfolding walk trip
operator_plus = refl

operator_minus : verdict (signs 61 (codes "1-1")) ∷ verdict (signs 62 (codes "1-1")) ∷ [] ≡ (3, 85) ∷ (4, 84) ∷ []
unfolding walk trip
operator_minus = refl

operator_times : verdict (signs 61 (codes "1*1")) ∷ verdict (signs 62 (codes "1*1")) ∷ [] ≡ (3, 85) ∷ (4, 84) ∷ []
unfolding walk trip
operator_times = refl

operator_over : verdict (signs 61 (codes "1/1")) ∷ verdict (signs 62 (codes "1/1")) ∷ [] ≡ (3, 85) ∷ (4, 84) ∷ []
unfolding walk trip
operator_over = refl

operator_modulo : verdict (signs 61 (codes "1%1")) ∷ verdict (signs 62 (codes "1%1")) ∷ [] ≡ (3, 85) ∷ (4, 84) ∷ []
unfolding walk trip
operator_modulo = refl

owed_operator : verdict (signs 56 (codes "min(1+1,1)")) ∷ verdict (signs 57 (codes "min(1+1,1)")) ∷ [] ≡ (3, 87) ∷ (4, 83) ∷ []
unfolding walk trip
owed_operator = refl

owed_parenthesis : verdict (signs 56 (codes "min((1),1)")) ∷ verdict (signs 57 (codes "min((1),1)")) ∷ [] ≡ (3, 87) ∷ (4, 82) ∷ []
unfolding walk trip
owed_parenthesis = refl

owed_in_second : verdict (signs 56 (codes "min(1,1+1)")) ∷ verdict (signs 57 (codes "min(1,1+1)")) ∷ [] ≡ (3, 87) ∷ (4, 85) ∷ []
unfolding walk trip
owed_in_second = refl
