use Rattle.fm_progress.proofs.Fresh.{fresh_by_sight}
use Rattle.fm_progress.proofs.laws.freshness_needs_no_bounds.Goals as goal

pub returns : goal.returns
returns c = fresh_by_sight
