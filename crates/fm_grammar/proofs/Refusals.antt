-- Texts with a token that can't stand, for each rule of the grammar, by computing.
use Rattle.std.proofs.Common.{◌≡◌, [], ◌∷◌, refl}
use Rattle.std.specs.Prelude.{codes}
use Rattle.fm_lex.specs.Tokens.{walk}
use Rattle.fm_grammar.specs.Table.{trip}
use Rattle.fm_grammar.proofs.Verdicts.{verdict}

values_refused :
    verdict (codes "note c4 1/4;")
    ∷ verdict (codes "formula c4;")
    ∷ verdict (codes "formula 1 note")
    ∷ verdict (codes "formula 1; seed ;")
    ∷ verdict (codes "formula 1; seed 1; seed 2;")
    ∷ verdict (codes "formula 1; shape = flat 1/4 by 1;")
    ∷ verdict (codes "formula 1; shape s = ;")
    ∷ verdict (codes "formula 1; shape s = slope 1/4 by 1 ;")
    ∷ verdict (codes "formula 1; shape s = pause 1/4 by 1;")
    ∷ verdict (codes "formula 1; phrase { }")
    ∷ verdict (codes "formula 1; phrase p { shape")
    ∷ verdict (codes "formula 1; note 1/4;")
    ∷ verdict (codes "formula 1; note c4 ;")
    ∷ verdict (codes "formula 1; note c4, 1/4;")
    ∷ verdict (codes "formula 1; note c4 1 ;")
    ∷ verdict (codes "formula 1; note c4 ticks ;")
    ∷ verdict (codes "formula 1; note c4 ticks (1) ;")
    ∷ verdict (codes "formula 1; note key c4")
    ∷ verdict (codes "formula 1; note key - -")
    ∷ verdict (codes "formula 1; play c4 1/4;")
    ∷ verdict (codes "formula 1; rest c4")
    ∷ verdict (codes "formula 1; control ;") ∷ []
    ≡ (3, 1) ∷ (3, 9) ∷ (3, 11) ∷ (3, 17) ∷ (3, 20) ∷ (3, 18) ∷ (3, 22) ∷ (3, 37) ∷ (3, 32) ∷ (3, 19) ∷ (3, 23) ∷ (3, 17) ∷ (3, 20)
    ∷ (3, 21) ∷ (3, 22) ∷ (3, 26) ∷ (3, 30) ∷ (3, 21) ∷ (3, 23) ∷ (3, 20) ∷ (3, 17) ∷ (3, 20) ∷ []
unfolding walk trip
values_refused = refl

statements_refused :
    verdict (codes "formula 1; control -1 2;")
    ∷ verdict (codes "formula 1; program ;")
    ∷ verdict (codes "formula 1; set c4")
    ∷ verdict (codes "formula 1; set r0 = ;")
    ∷ verdict (codes "formula 1; set r0 = 1 1")
    ∷ verdict (codes "formula 1; set r0 = min(1 )")
    ∷ verdict (codes "formula 1; set r0 = pick 1")
    ∷ verdict (codes "formula 1; set r0 = (1 ;")
    ∷ verdict (codes "formula 1; if {")
    ∷ verdict (codes "formula 1; if 1 ;")
    ∷ verdict (codes "formula 1; else { }")
    ∷ verdict (codes "formula 1; repeat {")
    ∷ verdict (codes "formula 1; repeat (1) {")
    ∷ verdict (codes "formula 1; do 1;")
    ∷ verdict (codes "formula 1; warp w ;")
    ∷ verdict (codes "formula 1; par { }")
    ∷ verdict (codes "formula 1; par { branch { } note")
    ∷ verdict (codes "formula 1; branch { }")
    ∷ verdict (codes "formula 1; channel {")
    ∷ verdict (codes "formula 1; rhythm []")
    ∷ verdict (codes "formula 1; rhythm [1/4, ]")
    ∷ verdict (codes "formula 1; artic [c4")
    ∷ verdict (codes "formula 1; loud [1 2") ∷ []
    ≡ (3, 20) ∷ (3, 20) ∷ (3, 16) ∷ (3, 21) ∷ (3, 23) ∷ (3, 27) ∷ (3, 26) ∷ (3, 24) ∷ (3, 15) ∷ (3, 17) ∷ (3, 12) ∷ (3, 19) ∷ (3, 23)
    ∷ (3, 15) ∷ (3, 19) ∷ (3, 18) ∷ (3, 29) ∷ (3, 12) ∷ (3, 20) ∷ (3, 20) ∷ (3, 25) ∷ (3, 19) ∷ (3, 20) ∷ []
unfolding walk trip
statements_refused = refl
