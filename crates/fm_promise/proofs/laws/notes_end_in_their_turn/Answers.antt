use Rattle.std.proofs.Common.{sym}
use Rattle.fm_promise.proofs.ByTill.{text_by_till, text_in_turn}
use Rattle.fm_promise.proofs.laws.notes_end_in_their_turn.Goals as goal

pub returns-clause-lines : goal.returns-clause-lines
returns-clause-lines c = text_in_turn

pub returns-clause-marks : goal.returns-clause-marks
returns-clause-marks c = λ t s m set. sym (text_by_till t s m set)
