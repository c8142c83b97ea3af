use Rattle.fm_judge.proofs.Placing.{placed_token, placed_deep}
use Rattle.fm_judge.proofs.judging.fault_of.Goals as goal

pub returns-in-Expected : goal.returns-in-Expected
returns-in-Expected c = λ text. placed_token text _ _ c.in-Expected.is

pub returns-in-TooNested : goal.returns-in-TooNested
returns-in-TooNested c = λ text. placed_deep text _ _ c.in-TooNested.is
