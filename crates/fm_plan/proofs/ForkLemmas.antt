-- Statements inside others say of themselves what the others do.
use Rattle.std.proofs.Common.{◌≡◌, ◌∙◌, List, sym, subst}
use Rattle.fm_outline.specs.declared.step.Step.{Step}
use Rattle.fm_outline.specs.Forking.{inside, AllThroughout, Throughout}
use Rattle.fm_outline.proofs.ForkLemmas.{inside_marked}

module _ {P : Step → Type 0} where
  -- those inside a statement, as they are at hand
  pub those_marked : {s : Step} {own steps : List Step} → Throughout P s → inside s.what ≡ own → steps ≡ own
      → AllThroughout P steps
  those_marked it is at = subst (AllThroughout P) (is ∙ sym at) (inside_marked it)
