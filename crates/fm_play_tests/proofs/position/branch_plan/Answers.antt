-- The plan fits.
use Rattle.std.proofs.Common.{rules}
use Rattle.fm_position.proofs.Rows.{branch_fits_as}
use Rattle.fm_play_tests.proofs.position.branch_plan.Goals as goal

pub of-requires : goal.of-requires
of-requires c = branch_fits_as _ (search rules)
