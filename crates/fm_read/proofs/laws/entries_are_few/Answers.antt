use Rattle.fm_read.proofs.Joined.{entries_few}
use Rattle.fm_read.proofs.laws.entries_are_few.Goals as goal

pub returns : goal.returns
returns c = entries_few
