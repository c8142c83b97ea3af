use Rattle.fm_file_tests.proofs.ExcerptFiles.{two_written}
use Rattle.fm_file_tests.proofs.excerpt.excerpts_have_their_bytes.Goals as goal

pub has_excerpt-requires-clause-written : goal.has_excerpt-requires-clause-written
has_excerpt-requires-clause-written g c = rw c.first.ensures two_written
