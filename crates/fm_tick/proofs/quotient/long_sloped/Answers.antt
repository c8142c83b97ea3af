use Rattle.std.proofs.Common.{arith}
use Rattle.fm_tick.proofs.QuotientLemmas.{IsSloped-le}
use Rattle.fm_tick.proofs.quotient.long_sloped.Goals as goal

pub overflow_cast-result : goal.overflow_cast-result
overflow_cast-result c =
    let small = IsSloped-le c.args.x _ _ _ _ c.requires.positive c.requires.inside c.args.s0.limited c.args.s1.limited
    c.wide_sloped.ensures in
    omega (arith, small)
