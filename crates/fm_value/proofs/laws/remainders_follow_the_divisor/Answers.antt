use Rattle.fm_value.proofs.Floors.{left_by_positive, left_by_negative, whole_is}
use Rattle.fm_value.proofs.laws.remainders_follow_the_divisor.Goals as goal

pub returns-clause-whole : goal.returns-clause-whole
returns-clause-whole c = whole_is

pub returns-clause-positive : goal.returns-clause-positive
returns-clause-positive c = λ x m some. let left = left_by_positive x m some in (left.low, left.high)

pub returns-clause-negative : goal.returns-clause-negative
returns-clause-negative c = λ x k. let left = left_by_negative x k in (left.low, left.high)
