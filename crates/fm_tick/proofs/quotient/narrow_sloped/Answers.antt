use Rattle.fm_tick.specs.Quotient.{sloped_of}
use Rattle.fm_tick.proofs.QuotientLemmas.{sloped_of-bounds}
use Rattle.fm_tick.proofs.quotient.narrow_sloped.Goals as goal

pub returns : goal.returns
unfolding sloped_of
returns c = sloped_of-bounds _ _ _ _ c.requires.whole.0 c.requires.inside
