use Rattle.std.proofs.Common.{◌≡◌, None}
use Rattle.fm_meaning.specs.Bounds.{fourth_walk}
use Rattle.fm_meaning.specs.Faults.{first_found}
use Rattle.fm_meaning.specs.Places.{third_walk}
use Rattle.fm_meaning.specs.Ranges.{second_walk}
use Rattle.fm_meaning.specs.Resolve.{resolved}
use Rattle.fm_meaning.specs.Rules.{score_rules}
use Rattle.fm_rules.specs.Why.{fault_at}
use Rattle.fm_outline.proofs.RefusalLemmas.{handed}
use Rattle.fm_check.proofs.FaultLemmas.{none_of_three, first_of_last}
use Rattle.fm_check.proofs.walks.check_made.Goals as goal

pub find_bounds-requires : goal.find_bounds-requires
find_bounds-requires c = (c.requires.0, c.requires.1.sound)

pub returns-in_err-bounds-clause-refused : goal.returns-in_err-bounds-clause-refused
returns-in_err-bounds-clause-refused c = λ s made why spot failed.
    let placed : None ≡ first_found (third_walk (resolved s).passage)
    = rw (c.in_default.is, made.sound.passage) at c.first_place_fault.ensures in
    first_of_last (second_walk s) (third_walk (resolved s).passage) (fourth_walk (score_rules s) (resolved s))
    (fault_at spot why) made.faultless placed
    (c.in_err-bounds.ensures.refused s made.sound why spot (handed failed c.from_residual.ensures.1))

pub returns-clause-bounds : goal.returns-clause-bounds
returns-clause-bounds c = λ s made. c.in_ok-bounds.ensures.bounds s made.sound

pub returns-clause-faultless : goal.returns-clause-faultless
returns-clause-faultless c = λ s made.
    let placed : None ≡ first_found (third_walk (resolved s).passage)
    = rw (c.in_default.is, made.sound.passage) at c.first_place_fault.ensures in
    none_of_three (second_walk s) (third_walk (resolved s).passage) (fourth_walk (score_rules s) (resolved s))
    made.faultless placed (c.in_ok-bounds.ensures.faultless s made.sound)
