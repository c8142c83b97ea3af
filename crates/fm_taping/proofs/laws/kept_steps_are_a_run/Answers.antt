use Rattle.fm_taping.proofs.KeptRuns.{plays_alike}
use Rattle.fm_taping.proofs.laws.kept_steps_are_a_run.Goals as goal

pub returns : goal.returns
returns c = plays_alike
