use Rattle.fm_grammar.proofs.OneTrip.{trips_excludes_reads}
use Rattle.fm_grammar.proofs.laws.reading_never_trips.Goals as goal

pub returns : goal.returns
returns c = λ ts before at score reads trips. trips_excludes_reads ts before at score trips reads
