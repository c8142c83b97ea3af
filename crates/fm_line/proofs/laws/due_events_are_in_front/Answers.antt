use Rattle.fm_line.proofs.Dues.{due_in_front, up_to_before}
use Rattle.fm_line.proofs.laws.due_events_are_in_front.Goals as goal

pub returns-clause-any_test : goal.returns-clause-any_test
returns-clause-any_test c = due_in_front

pub returns-clause-key : goal.returns-clause-key
returns-clause-key c = up_to_before
