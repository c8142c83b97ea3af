use Rattle.fm_player.proofs.ReadLemmas.{event-clock}
use Rattle.fm_player.proofs.WholeLemmas.{at-end, end-late, rest-late, whole-line}
use Rattle.fm_player.proofs.laws.players_give_their_lines.Goals as goal

pub returns-clause-line : goal.returns-clause-line
returns-clause-line c = λ p s course. whole-line p s course

pub returns-clause-next : goal.returns-clause-next
returns-clause-next c = λ p s e course is plain. event-clock p s e course is plain

pub returns-clause-later : goal.returns-clause-later
returns-clause-later c = λ p s course. rest-late p s course

pub returns-clause-last : goal.returns-clause-last
returns-clause-last c = λ p s course. end-late p s course

pub returns-clause-ended : goal.returns-clause-ended
returns-clause-ended c = λ p s course none. at-end p s course none
