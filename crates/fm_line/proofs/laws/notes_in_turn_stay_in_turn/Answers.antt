use Rattle.fm_line.specs.Marks.{process_end}
use Rattle.fm_line.proofs.OutInTurn.{in_turn, in_turn_events}
use Rattle.fm_line.proofs.laws.notes_in_turn_stay_in_turn.Goals as goal

pub returns-clause-sounds : goal.returns-clause-sounds
returns-clause-sounds c = in_turn

pub returns-clause-events : goal.returns-clause-events
returns-clause-events c = λ low j ms runs numbered. in_turn_events low j (process_end j ms) ms runs numbered
