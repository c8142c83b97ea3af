-- The plan of one note fits.
use Rattle.std.proofs.Common.{rules}
use Rattle.fm_program.proofs.Rows.{note_fits_as}
use Rattle.fm_crew_tests.proofs.board.plan_of_a_note.Goals as goal

pub of-requires : goal.of-requires
of-requires c = note_fits_as _ (search rules)
