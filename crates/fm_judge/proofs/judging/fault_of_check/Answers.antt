use Rattle.fm_judge.proofs.Placing.{placed_first}
use Rattle.fm_judge.proofs.judging.fault_of_check.Goals as goal

pub returns-in-Refused : goal.returns-in-Refused
returns-in-Refused c = λ text score. placed_first text score _ _ _ _ c.in-Refused.is c.number.ensures
