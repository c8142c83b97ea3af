use Rattle.std.proofs.Common.{◌*◌}
use Rattle.fm_tick.proofs.QuotientLemmas.{IsQuotient-unique, IsSloped-unique}
use Rattle.fm_tick.proofs.laws.bounds_name_one_number.Goals as goal

pub returns-clause-flat : goal.returns-clause-flat
returns-clause-flat c = λ x s q r one other. IsQuotient-unique (x * s) 1000 q r one other

pub returns-clause-sloped : goal.returns-clause-sloped
returns-clause-sloped c = IsSloped-unique
