use Rattle.fm_file_tests.proofs.ExcerptFiles.{two_written}
use Rattle.fm_file_tests.proofs.excerpt.an_excerpt_without_its_patch_has_no_length.Goals as goal

pub has_excerpt-requires-clause-written : goal.has_excerpt-requires-clause-written
has_excerpt-requires-clause-written g c = rw c.first.ensures two_written
