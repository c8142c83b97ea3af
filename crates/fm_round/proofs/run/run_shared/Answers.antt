use Rattle.fm_round.proofs.Running.{runs_all}
use Rattle.fm_round.proofs.run.run_shared.Goals as goal

pub returns : goal.returns
returns g c = runs_all _ _ _ _ c.share.ensures.len c.share.ensures.each
