use Rattle.fm_expansion.proofs.Resolving.{outline_found}
use Rattle.fm_expansion.proofs.laws.outlines_stand_for_scores.Goals as goal

pub returns : goal.returns
returns c = λ s none. (outline_found s none).0
