-- What is gathered stands in the order of its processes, and there is memory to release it.
use Rattle.std.proofs.Common.{arith}
use Rattle.fm_hall.proofs.Halls.{release_fits, gathered_ordered}
use Rattle.fm_hall.proofs.effects.take_step.Goals as goal

pub release-requires-clause-room : goal.release-requires-clause-room
release-requires-clause-room c =
    let fits = release_fits c.args.rules.now c.args.tables.now c.requires.hall in
    let memory = c.requires.hall.releases in omega arith

pub release-requires-clause-ordered : goal.release-requires-clause-ordered
release-requires-clause-ordered c = gathered_ordered _ _ c.requires.hall
