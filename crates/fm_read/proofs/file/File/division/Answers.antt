use Rattle.fm_read.proofs.KeptLemmas.{kept_file}
use Rattle.fm_read.proofs.file.File.division.Goals as goal

pub returns-clause-ticks : goal.returns-clause-ticks
returns-clause-ticks c = (kept_file _ _ _ c.self.invariant).header.ticks
