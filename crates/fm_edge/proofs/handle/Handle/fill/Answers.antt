use Rattle.std.proofs.Common.{ap, refl}
use Rattle.fm_edge.proofs.handle.Handle.fill.Goals as goal

pub returns-clause-passed : goal.returns-clause-passed
returns-clause-passed g c = record {
  shown = _;
  given = _;
  shows = ap (λ z. z.inner) c.self.view_is;
  gives = refl;
  left = _;
  filled = _;
  met = c.call-result.ensures;
  leaves = refl;
  fills = refl;
}
