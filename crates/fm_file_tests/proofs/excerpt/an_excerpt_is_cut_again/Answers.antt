use Rattle.fm_file_tests.proofs.ExcerptFiles.{two_written}
use Rattle.fm_file_tests.proofs.excerpt.an_excerpt_is_cut_again.Goals as goal

pub excerpt_again-answer-requires-clause-written : goal.excerpt_again-answer-requires-clause-written
excerpt_again-answer-requires-clause-written g c = rw c.first-profile.ensures two_written
