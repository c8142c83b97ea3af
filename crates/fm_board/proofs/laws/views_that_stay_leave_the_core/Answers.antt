use Rattle.fm_board.proofs.Staying.{look_stays, pace_stays}
use Rattle.fm_board.proofs.laws.views_that_stay_leave_the_core.Goals as goal

pub returns : goal.returns
returns c = record { pace = pace_stays; look = λ a s t x k l f p. look_stays a s t x k l f p }
