use Rattle.fm_round.proofs.Running.{runs_all}
use Rattle.fm_round.proofs.run.run_alone.Goals as goal

pub returns : goal.returns
returns c = runs_all _ _ _ _ c.run_chunk.ensures.len c.run_chunk.ensures.each
