use Rattle.fm_excerpt.proofs.NoteLemmas.{excerpt_begun, excerpt_ended}
use Rattle.fm_excerpt.proofs.laws.each_note_on_has_its_note_off.Goals as goal

pub returns-clause-begun : goal.returns-clause-begun
returns-clause-begun c = excerpt_begun

pub returns-clause-ended : goal.returns-clause-ended
returns-clause-ended c = excerpt_ended
