-- A step keeps the hall a hall, and a hall is safe.
use Rattle.std.proofs.Common.{sym, ◌∙◌, subst}
use Rattle.fm_hall.specs.Hall.{HallState, IsSafe}
use Rattle.fm_state.specs.Stored.{IsHall}
use Rattle.fm_hall.proofs.Halls.{hall_keeps, hall_safe}
use Rattle.fm_hall.proofs.hall.Hall.step.Goals as goal

pub invariant_of-self : goal.invariant_of-self
invariant_of-self c =
    let m = c.self.inside in
    subst (IsHall m.rules) (sym c.take_step.ensures)
    (hall_keeps m.rules m.tables c.args.step.now c.self.invariant (sym c.why_not.ensures ∙ c.in-None.is))

pub returns-in-Some-clause-safe : goal.returns-in-Some-clause-safe
returns-in-Some-clause-safe c =
    subst (λ (v : HallState). IsSafe v.setting v.state) c.self.view_is
    (hall_safe c.self.inside.rules c.self.inside.tables c.self.invariant)

pub returns-in-None-clause-sound : goal.returns-in-None-clause-sound
returns-in-None-clause-sound c = (invariant_of-self c).sound

pub returns-in-None-clause-safe : goal.returns-in-None-clause-safe
returns-in-None-clause-safe c = hall_safe c.self.inside.rules c.take_step.new.tables (invariant_of-self c)
