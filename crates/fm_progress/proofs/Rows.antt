-- A worked example: the chosen steps alone play three processes, of which the last has two events, to their end.
use Rattle.std.proofs.Common.{◌≡◌, [], ◌∷◌, true, Some, None, refl}
use Rattle.fm_core.proofs.Walking.{on_at}
use Rattle.fm_core.specs.State.{Setting, opening}
use Rattle.fm_core.specs.declared.step.Step.TheVariants.{Claim, Record, Give, Start}
use Rattle.fm_progress.specs.NextStep.{next_step}
use Rattle.fm_progress.specs.Progress.{played}

abbrev three : Setting
three = record {
  lines =
      record { events = []; predecessors = []; end = 0 }
      ∷ record { events = []; predecessors = 0 ∷ []; end = 7 }
      ∷ record { events = on_at 7 2 0 ∷ on_at 439 2 1 ∷ []; predecessors = 1 ∷ []; end = 487 } ∷ [];
  room = 1;
  lead = 0;
}

-- process 0 is taken, recorded and given back at its end, and then process 1 is started
begins : (next_step three (opening 3 2) ≡ Some (Claim 0 0))
    × (next_step three (played 1 three (opening 3 2)) ≡ Some (Record 0 0))
    × (next_step three (played 2 three (opening 3 2)) ≡ Some (Give 0 0 0 0 0 true))
    × (next_step three (played 3 three (opening 3 2)) ≡ Some (Start 0 1))
begins = (refl, refl, refl, refl)

-- forty steps are enough: both events are out, and no step is left
ends : ((played 40 three (opening 3 2)).released ≡ on_at 7 2 0 ∷ on_at 439 2 1 ∷ [])
    × (next_step three (played 40 three (opening 3 2)) ≡ None)
ends = (refl, refl)
