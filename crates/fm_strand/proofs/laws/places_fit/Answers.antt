use Rattle.fm_strand.proofs.PlaceLemmas.{end-fits, place-fits, start-fits}
use Rattle.fm_strand.proofs.laws.places_fit.Goals as goal

pub returns-clause-reached : goal.returns-clause-reached
returns-clause-reached c = place-fits

pub returns-clause-start : goal.returns-clause-start
returns-clause-start c = start-fits

pub returns-clause-end : goal.returns-clause-end
returns-clause-end c = end-fits
