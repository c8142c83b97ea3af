use Rattle.std.proofs.Common.{ℕ, List, subst, sym}
use Rattle.fm_round.specs.Hands.{IsRound}
use Rattle.fm_round.proofs.course.run_round.Goals as goal

pub hands-requires : goal.hands-requires
hands-requires g c =
    c.requires.are.may _ _ _ _
    (subst (λ (ns : List ℕ). IsRound c.args.plan.now c.requires.room c.requires.lead c.args.limit ns c.args.lanes.now)
    (sym c.deref.ensures.value) c.requires.round)

pub returns : goal.returns
returns g c = c.requires.are.run _ _ _ _ _ c.hands.ensures
