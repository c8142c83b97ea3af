-- A text that is outlined while it is read.
use Rattle.std.proofs.Common.{◌≡◌, ◌++◌, Some, refl}
use Rattle.fm_lex.specs.declared.spot.Spot.{Spot}
use Rattle.fm_grammar.specs.Score.{Score}
use Rattle.fm_meaning.specs.Bounds.{fourth_walk}
use Rattle.fm_meaning.specs.Faults.{first_found}
use Rattle.fm_meaning.specs.Places.{third_walk}
use Rattle.fm_meaning.specs.Ranges.{second_walk}
use Rattle.fm_meaning.specs.Resolve.{resolved}
use Rattle.fm_meaning.specs.Rules.{score_rules}
use Rattle.fm_rules.specs.Why.{fault_at}
use Rattle.fm_rules.specs.declared.why.Why.{Why}
use Rattle.fm_rules.specs.declared.fault.CheckFault.{CheckFault}
use Rattle.fm_rules.specs.declared.fault.CheckFault.TheVariants.{Refused, Memory}
use Rattle.fm_outline.proofs.RefusalLemmas.{before}
use Rattle.fm_judge.specs.Judging.{IsFirst}

-- the first fault of names and numbers is the first of a score that reads
pub first_walked : (fault : CheckFault) (s : Score)
    → ((why : Why) (spot : Spot) → fault ≡ Refused why spot → first_found (second_walk s) ≡ Some (fault_at spot why))
    → IsFirst fault s
first_walked (Refused why spot) s said =
    let f = fault_at spot why in
    let places = third_walk (resolved s).passage in
    before (second_walk s ++ places) (fourth_walk (score_rules s) (resolved s)) f
    (before (second_walk s) places f (said why spot refl))
first_walked Memory s said = tt
