use Rattle.std.proofs.Common.{ap, refl}
use Rattle.fm_edge.proofs.handle.Handle.once_write.Goals as goal

pub returns-clause-passed : goal.returns-clause-passed
returns-clause-passed g c =
    record { shown = _; shows = ap (λ z. z.inner) c.self.view_is; left = _; met = c.call-result.ensures; leaves = refl }
