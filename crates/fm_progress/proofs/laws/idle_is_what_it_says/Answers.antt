use Rattle.fm_progress.proofs.Lowering.{lowerable_is_not_idle, not_idle_is_lowerable}
use Rattle.fm_progress.proofs.laws.idle_is_what_it_says.Goals as goal

pub returns : goal.returns
returns c = record { lowers = not_idle_is_lowerable; lowered = lowerable_is_not_idle }
