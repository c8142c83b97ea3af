-- Two tables of a board, between which one seat has made some steps.
use Rattle.std.specs.Prelude.{◌≡◌, ◌⊎◌, ℕ, List, [], ◌∷◌, ◌++◌, slice_set}
use mathlib.Core.Option.{some}
use lib.ListN.{get_elem?}
use Rattle.fm_core.specs.Effects.{Legal, run}
use Rattle.fm_core.specs.declared.step.Step.{Step}
use Rattle.fm_core.specs.declared.step.Step.TheVariants.{Release}
use Rattle.fm_board.specs.declared.about.About.{About}
use Rattle.fm_board.specs.declared.view.Mind.{Mind}
use Rattle.fm_board.specs.Runs.{BeginsWith}
use Rattle.fm_board.specs.StandsFor.{StandsForSome, Table, setting}

-- between the two tables one seat alone has come to know more: it made these steps, behind all that it had made, and what
-- it has seen begins with what it had seen
pub record Follows (s t : Table) (steps : List Step) : Type 0 where
  pub seat : ℕ
  pub old : Mind
  pub new : Mind
  pub was : get_elem? s.views seat ≡ some old
  pub is : t.views ≡ slice_set s.views seat new
  pub made : new.log.mine ≡ old.log.mine ++ steps
  pub order : BeginsWith new.log.seen old.log.seen

-- from the state of the first table these steps are allowed one after another, and lead to the state of the second
pub record LeadsTo (a : About) (s t : Table) (k : StandsForSome a s) (l : StandsForSome a t) (steps : List Step) : Type 0 where
  pub legal : Legal (setting a) k.core steps
  pub after : run (setting a) k.core steps ≡ l.core

-- the first run ends with a release, which stands behind some of the steps in the second run
pub record TakesIn (old new steps : List Step) : Type 0 where
  pub before : List Step
  pub count : ℕ
  pub first : List Step
  pub others : List Step
  pub was : old ≡ before ++ Release count ∷ []
  pub parts : steps ≡ first ++ others
  pub is : new ≡ before ++ (first ++ Release count ∷ others)

-- the second run is the first one and the steps behind it, but for the place of a release that stood last
abbrev pub GoesOnBy : List Step → List Step → List Step → Type 0
GoesOnBy old new steps = (new ≡ old ++ steps) ⊎ TakesIn old new steps
