use Rattle.fm_excerpt.proofs.WholeLemmas.{first_is}
use Rattle.fm_excerpt.proofs.whole.first_track.Goals as goal

pub returns-clause-value : goal.returns-clause-value
returns-clause-value c = first_is _ _ c.track.ensures.value
