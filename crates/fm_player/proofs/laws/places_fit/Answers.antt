use Rattle.fm_player.proofs.PlaceLemmas.{end-fits, place-fits, start-fits}
use Rattle.fm_player.proofs.laws.places_fit.Goals as goal

pub returns-clause-reached : goal.returns-clause-reached
returns-clause-reached c = λ p s course. place-fits p s course

pub returns-clause-start : goal.returns-clause-start
returns-clause-start c = λ p j fits below. start-fits p j fits below

pub returns-clause-end : goal.returns-clause-end
returns-clause-end c = λ p j fits below. end-fits p j fits below
