use Rattle.fm_outline.proofs.AskingLemmas.{none_ask}
use Rattle.fm_outline.proofs.asking.phrase_asks.Goals as goal

pub returns-in-None : goal.returns-in-None
returns-in-None c = λ t look known. rw (c.in-None.is, c.no_needs-in-None.ensures) (none_ask t)
