-- What is released is a beginning of the piece.
use Rattle.fm_hall.proofs.Halls.{hall_safe}
use Rattle.fm_hall.proofs.hall.Hall.released.Goals as goal

pub returns-clause-prefix : goal.returns-clause-prefix
returns-clause-prefix c =
    let safe = hall_safe c.self.inside.rules c.self.inside.tables c.self.invariant in
    rw (← c.self.view_is, c.released.ensures) safe.orderly.released
