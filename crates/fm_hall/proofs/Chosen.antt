-- What the chosen step promises of a hall.
use Rattle.std.proofs.Common.{◌≡◌, Option, Some, None, sym, ap, ◌∙◌, subst}
use Rattle.std.specs.Prelude.{◌↔◌, is_some, IsNone, IfSome}
use Rattle.fm_core.specs.State.{Setting, State}
use Rattle.fm_core.specs.Invariant.{ValidSetting, Sound}
use Rattle.fm_core.specs.declared.step.Step.{Step}
use Rattle.fm_progress.specs.NextStep.{next_step}
use Rattle.fm_progress.specs.Progress.{Finished, Nearer, GoesOn}
use Rattle.fm_progress.proofs.NeverStuck.{goes_on, ends_there}

module _ (g : Setting) (h : State) (valid : ValidSetting g) (ok : Sound g h) where
  none_done : (o : Option Step) → GoesOn g h o → IsNone o → Finished g h
  none_done None done none = done
  none_done (Some step) nearer none = absurd (cc)

  -- no step is chosen exactly where all is released and drained
  pub chosen_none : (o : Option Step) → o ≡ next_step g h → IsNone o ↔ Finished g h
  chosen_none o is = (
    none_done o (subst (GoesOn g h) (sym is) (goes_on g h valid ok)),
    λ done. ap is_some (is ∙ ends_there g h valid ok done),
  )

  -- a chosen step is allowed and brings the run nearer to its end
  pub chosen_nearer : (o : Option Step) → o ≡ next_step g h → IfSome o (λ step. Nearer g h step)
  chosen_nearer o is = by_cases o (subst (GoesOn g h) (sym is) (goes_on g h valid ok))
    where
      by_cases : (o : Option Step) → GoesOn g h o → IfSome o (λ step. Nearer g h step)
      by_cases None done = tt
      by_cases (Some step) nearer = nearer
