use Rattle.fm_read.proofs.KeptLemmas.{kept_file, head_long}
use Rattle.fm_read.proofs.file.File.head.Goals as goal

pub returns-clause-long : goal.returns-clause-long
returns-clause-long c = head_long _ (kept_file _ _ _ c.self.invariant)
