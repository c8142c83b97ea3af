use Rattle.fm_core.proofs.Bounds.{bound_born, bound_unborn}
use Rattle.fm_core.proofs.laws.bounds_are_told_by_two_equations.Goals as goal

pub returns : goal.returns
returns c = record { born = bound_born; unborn = λ g h j valid lt unborn. bound_unborn g h valid j lt unborn }
