-- What of a run is kept on a tape, and what the kept steps are.
use Rattle.std.specs.Prelude.{◌≡◌, ◌⊎◌, List, [], ◌∷◌, Bool, true, false, not, nat_eq}
use Rattle.fm_core.specs.Effects.{Legal, after, run}
use Rattle.fm_core.specs.State.{Setting, State}
use Rattle.fm_core.specs.declared.step.Step.{Step}
use Rattle.fm_core.specs.declared.step.Step.TheVariants.{Look}

-- a look of another seat than 0
abbrev pub is_worker_look : Step → Bool
is_worker_look (Look s p) = not (nat_eq s 0)
is_worker_look x = false

-- ys are the steps xs, taken from the state h on, without each look of a worker, and without some steps that leave the state
-- as it was
abbrev pub IsKeptOf : Setting → State → List Step → List Step → Type 0
IsKeptOf g h [] ys = ys ≡ []
IsKeptOf g h (x ∷ xs) ys =
    ((is_worker_look x ≡ false) × (zs : List Step) × (ys ≡ x ∷ zs) × IsKeptOf g (after g h x) xs zs)
    ⊎ (((is_worker_look x ≡ true) ⊎ (after g h x ≡ h)) × IsKeptOf g (after g h x) xs ys)

-- from this state the steps ys are a run too, to the same processes, floor and released events
pub record PlaysAlike (g : Setting) (h : State) (xs ys : List Step) : Type 0 where
  pub legal : Legal g h ys
  pub cells : (run g h ys).cells ≡ (run g h xs).cells
  pub floor : (run g h ys).floor ≡ (run g h xs).floor
  pub released : (run g h ys).released ≡ (run g h xs).released
