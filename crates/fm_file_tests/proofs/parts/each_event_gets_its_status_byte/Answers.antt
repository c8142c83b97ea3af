use Rattle.fm_file_tests.proofs.PartsFiles.{running_written}
use Rattle.fm_file_tests.proofs.parts.each_event_gets_its_status_byte.Goals as goal

pub has_parts-requires-clause-written : goal.has_parts-requires-clause-written
has_parts-requires-clause-written g c = running_written
