-- How much there is to expand: each call of the expansion has less than its caller.
use Rattle.std.proofs.Common.{ℕ, zero, suc, ◌+◌, ◌<◌, ◌≤◌, List, [], ◌∷◌, map, take, length, arith}
use Rattle.std.specs.Prelude.{slice_index_or}
use Rattle.fm_outline.specs.declared.step.Step.{Step}
use Rattle.fm_outline.specs.declared.step.Instruction.TheOpen.{Instruction-F, Step-F}
use Rattle.fm_outline.specs.declared.step.Instruction.TheFolds.{fold-Step}

-- the sum of numbers
abbrev pub total : List ℕ → ℕ
total [] = 0
total (n ∷ ns) = n + total ns

-- one level of a statement, where what stands inside is weighed already
abbrev pub instruction_weight : Instruction-F ℕ ℕ → ℕ
instruction_weight (Instruction-F.Choice expr ys ns) = 1 + (total ys.items + total ns.items)
instruction_weight (Instruction-F.Loop count b) = 1 + total b.items
instruction_weight (Instruction-F.Par bs) = 1 + total (map (λ b. total b.items) bs.items)
instruction_weight (Instruction-F.Warp number b) = 1 + total b.items
instruction_weight (Instruction-F.Channel number b) = 1 + total b.items
instruction_weight (Instruction-F.Steady q entry b) = 1 + total b.items
instruction_weight (Instruction-F.Under q list b) = 1 + total b.items
instruction_weight instruction = 1

-- one level of a step
abbrev pub step_level : Step-F ℕ ℕ → ℕ
step_level s = s.what

-- a step
abbrev pub step_weight : Step → ℕ
step_weight = fold-Step ℕ ℕ instruction_weight step_level

-- steps in turn
abbrev pub steps_weight : List Step → ℕ
steps_weight steps = total (map step_weight steps)

-- phrases
abbrev pub phrases_weight : List (List Step) → ℕ
phrases_weight [] = 0
phrases_weight (p ∷ ps) = (1 + steps_weight p) + phrases_weight ps

-- an element weighs no more than all
pub element_weight : {A : Type 0} (f : A → ℕ) (xs : List A) (k : ℕ) (d : A) → k < length xs → f (slice_index_or xs k d) ≤ total (map f xs)
element_weight f [] k d within = absurd (omega (arith, within))
element_weight f (x ∷ xs) zero d within = omega arith
element_weight f (x ∷ xs) (suc k) d within = omega (arith, element_weight f xs k d (omega (arith, within)))

-- a phrase and those before it weigh less than all
pub phrase_weight : (ps : List (List Step)) (k : ℕ) (d : List Step) → k < length ps
    → phrases_weight (take k ps) + (1 + steps_weight (slice_index_or ps k d)) ≤ phrases_weight ps
phrase_weight [] k d within = absurd (omega (arith, within))
phrase_weight (p ∷ ps) zero d within = omega arith
phrase_weight (p ∷ ps) (suc k) d within = omega (arith, phrase_weight ps k d (omega (arith, within)))
