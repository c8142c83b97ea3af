use Rattle.fm_listing.proofs.WrittenLines.{written_listed}
use Rattle.fm_listing.proofs.laws.written_files_are_listed.Goals as goal

pub returns : goal.returns
returns c = written_listed
