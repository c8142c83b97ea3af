use Rattle.std.proofs.Common.{arith}
use Rattle.fm_locate.proofs.LocatingLemmas.{IsNever-last}
use Rattle.fm_locate.proofs.position.least_inside.Goals as goal

pub returns-clause-never : goal.returns-clause-never
returns-clause-never c = λ none.
    IsNever-last c.args.origin c.args.warp.now c.args.t
    (omega (arith, c.least.ensures.none.0 none, c.saturating_sub.ensures))
