use Rattle.fm_core.proofs.Sweeps.{least_of}
use Rattle.fm_core.proofs.laws.least_is_the_least_pair.Goals as goal

pub returns : goal.returns
returns c = least_of
