use Rattle.fm_read.proofs.KeptLemmas.{kept_file}
use Rattle.fm_read.proofs.file.File.format.Goals as goal

pub returns-clause-known : goal.returns-clause-known
returns-clause-known c = (kept_file _ _ _ c.self.invariant).header.known
