use Rattle.fm_tick.proofs.QuotientLemmas.{IsSloped-number, IsSloped-le}
use Rattle.fm_tick.proofs.quotient.sloped.Goals as goal

pub returns-clause-value : goal.returns-clause-value
returns-clause-value c = IsSloped-number _ _ _ _ _ c.requires.positive c.requires.inside c.sloped_quotient.ensures

pub returns-clause-small : goal.returns-clause-small
returns-clause-small c =
    IsSloped-le _ _ _ _ _ c.requires.positive c.requires.inside c.args.s0.limited c.args.s1.limited
    c.sloped_quotient.ensures
