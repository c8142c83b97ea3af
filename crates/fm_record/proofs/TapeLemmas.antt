-- What a tape keeps where a step is appended.
use Rattle.std.proofs.Common.{◌≡◌, ℕ, ◌≤◌, List, ◌++◌, take, drop, length, sym, subst, arith, length-append}
use Rattle.std.proofs.lemmas.List.{drop-append-le, take-append-le}
use Rattle.fm_core.specs.declared.step.Step.{Step}
use Rattle.fm_record.specs.Head.{AreHead}
use Rattle.fm_record.specs.StepBytes.{AreSteps, HasFields, step_bytes}
use Rattle.fm_record.proofs.StepLemmas.{steps_more}

-- what holds of a tape's bytes holds with a step more
pub tape_more : (start : ℕ) (old new : List ℕ) (s : Step) → new ≡ old ++ step_bytes s → HasFields s
    → (start ≤ length old) × AreHead (take start old) × AreSteps (drop start old)
    → (start ≤ length new) × AreHead (take start new) × AreSteps (drop start new)
tape_more start old new s is fits (within, head, steps) =
    let front : take start (old ++ step_bytes s) ≡ take start old = take-append-le start old (step_bytes s) within in
    let behind : drop start (old ++ step_bytes s) ≡ drop start old ++ step_bytes s =
    drop-append-le start old (step_bytes s) within in
    subst (λ (bs : List ℕ). (start ≤ length bs) × AreHead (take start bs) × AreSteps (drop start bs)) (sym is) (
      omega (arith, within, length-append old (step_bytes s)),
      subst AreHead (sym front) head,
      subst AreSteps (sym behind) (steps_more (drop start old) s steps fits),
    )
