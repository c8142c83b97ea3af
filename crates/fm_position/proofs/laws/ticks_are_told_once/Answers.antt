use Rattle.fm_position.proofs.ToldLemmas.{told_once}
use Rattle.fm_position.proofs.laws.ticks_are_told_once.Goals as goal

pub returns : goal.returns
returns c = told_once
