use Rattle.std.proofs.Common.{rules}
use Rattle.fm_smf.proofs.Tracks.{track_fits}
use Rattle.fm_file_tests.proofs.smf.write_note.Goals as goal

pub write_file-requires-clause-fits : goal.write_file-requires-clause-fits
write_file-requires-clause-fits g c = track_fits _ _ _ (search rules) (search rules) (search rules) (search rules)
