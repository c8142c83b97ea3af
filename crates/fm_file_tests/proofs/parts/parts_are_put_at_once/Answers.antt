use Rattle.fm_file_tests.proofs.PartsFiles.{two_written}
use Rattle.fm_file_tests.proofs.parts.parts_are_put_at_once.Goals as goal

pub has_parts-requires-clause-written : goal.has_parts-requires-clause-written
has_parts-requires-clause-written g c = two_written
