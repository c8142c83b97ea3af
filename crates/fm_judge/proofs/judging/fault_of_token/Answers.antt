use Rattle.fm_judge.proofs.Placing.{placed_byte, placed_number}
use Rattle.fm_judge.proofs.judging.fault_of_token.Goals as goal

pub returns-in-BadByte : goal.returns-in-BadByte
returns-in-BadByte c = λ text. placed_byte text _ _ c.in-BadByte.is

pub returns-in-BadNumber : goal.returns-in-BadNumber
returns-in-BadNumber c = λ text. placed_number text _ _ c.in-BadNumber.is
