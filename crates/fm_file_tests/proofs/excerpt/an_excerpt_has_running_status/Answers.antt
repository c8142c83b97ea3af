use Rattle.fm_file_tests.proofs.ExcerptFiles.{running_written}
use Rattle.fm_file_tests.proofs.excerpt.an_excerpt_has_running_status.Goals as goal

pub has_excerpt-requires-clause-written : goal.has_excerpt-requires-clause-written
has_excerpt-requires-clause-written g c = running_written
