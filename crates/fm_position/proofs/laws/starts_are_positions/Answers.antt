use Rattle.fm_position.proofs.StartLemmas.{composed-start, start-meets}
use Rattle.fm_position.proofs.laws.starts_are_positions.Goals as goal

pub returns-clause-start : goal.returns-clause-start
returns-clause-start c = composed-start

pub returns-clause-before : goal.returns-clause-before
returns-clause-before c = start-meets
