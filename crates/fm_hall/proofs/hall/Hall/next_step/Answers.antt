-- The chosen step goes on to the end.
use Rattle.std.proofs.Common.{subst}
use Rattle.std.specs.Prelude.{◌↔◌, IsNone, IfSome}
use Rattle.fm_progress.specs.Progress.{Finished, Nearer}
use Rattle.fm_hall.specs.Hall.{HallState}
use Rattle.fm_hall.proofs.Chosen.{chosen_none, chosen_nearer}
use Rattle.fm_hall.proofs.hall.Hall.next_step.Goals as goal

pub returns-clause-none : goal.returns-clause-none
returns-clause-none c =
    let m = c.self.inside in
    let hall = c.self.invariant in
    subst (λ (v : HallState). IsNone c.chosen_step.result ↔ Finished v.setting v.state) c.self.view_is
    (chosen_none m.rules m.tables.state hall.setting.valid hall.sound c.chosen_step.result c.chosen_step.ensures)

pub returns-clause-nearer : goal.returns-clause-nearer
returns-clause-nearer c =
    let m = c.self.inside in
    let hall = c.self.invariant in
    subst (λ (v : HallState). IfSome c.chosen_step.result (λ step. Nearer v.setting v.state step)) c.self.view_is
    (chosen_nearer m.rules m.tables.state hall.setting.valid hall.sound c.chosen_step.result c.chosen_step.ensures)
