-- Worked examples of the text on the console, with numbers in decimal.
use Rattle.std.proofs.Common.{◌≡◌, ℕ, ◌++◌, ◌∷◌, [], ap, ◌∙◌, refl, arith}
use Rattle.std.specs.Prelude.{codes, decimal}
use Rattle.std.proofs.lemmas.Fmt.{decimal_digit, decimal_step}
use Rattle.fm_lex.specs.declared.spot.Spot.{Spot}
use Rattle.fm_tell.specs.declared.run_fault.RunFault.TheVariants.{Record, Score}
use Rattle.fm_tell.specs.Telling.{fault_text}

abbrev at : ℕ → ℕ → Spot
at line column = record { line = line; column = column }

ten : decimal 10 ≡ codes "10"
ten = decimal_step 10 (omega arith) (omega arith) ∙ ap (λ z. z ++ 48 ∷ []) (decimal_digit 1 (omega arith))

eighteen : decimal 18 ≡ codes "18"
eighteen = decimal_step 18 (omega arith) (omega arith) ∙ ap (λ z. z ++ 56 ∷ []) (decimal_digit 1 (omega arith))

twenty : decimal 20 ≡ codes "20"
twenty = decimal_step 20 (omega arith) (omega arith) ∙ ap (λ z. z ++ 48 ∷ []) (decimal_digit 2 (omega arith))

twenty_two : decimal 22 ≡ codes "22"
twenty_two = decimal_step 22 (omega arith) (omega arith) ∙ ap (λ z. z ++ 50 ∷ []) (decimal_digit 2 (omega arith))

forty_three : decimal 43 ≡ codes "43"
forty_three = decimal_step 43 (omega arith) (omega arith) ∙ ap (λ z. z ++ 51 ∷ []) (decimal_digit 4 (omega arith))

hundred_and_seven : decimal 107 ≡ codes "107"
hundred_and_seven = decimal_step 107 (omega arith) (omega arith) ∙ ap (λ z. z ++ 55 ∷ []) ten

text-at_a_place : fault_text (Score (at 1 20) 8) ≡ codes "formula: score refused: 1:20 fault 8\n"
unfolding fault_text
text-at_a_place = rw (decimal_digit 1 (omega arith), twenty, decimal_digit 8 (omega arith)) refl

text-at_a_later_place : fault_text (Score (at 107 10) 18) ≡ codes "formula: score refused: 107:10 fault 18\n"
unfolding fault_text
text-at_a_later_place = rw (hundred_and_seven, ten, eighteen) refl

text-of_a_record : fault_text (Record 22 43) ≡ codes "formula: record refused: 22 fault 43\n"
unfolding fault_text
text-of_a_record = rw (twenty_two, forty_three) refl
