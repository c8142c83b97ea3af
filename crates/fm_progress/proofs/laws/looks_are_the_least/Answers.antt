use Rattle.fm_progress.proofs.LooksTo.{looks_to_least}
use Rattle.fm_progress.proofs.laws.looks_are_the_least.Goals as goal

pub returns : goal.returns
returns c = looks_to_least
