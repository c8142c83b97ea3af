use Rattle.fm_excerpt.proofs.JoinLemmas.{starts_meet, keys_join, windows_join, ends_meet}
use Rattle.fm_excerpt.proofs.laws.excerpts_that_meet.Goals as goal

pub returns-clause-starts : goal.returns-clause-starts
returns-clause-starts c = starts_meet

pub returns-clause-keys : goal.returns-clause-keys
returns-clause-keys c = keys_join

pub returns-clause-joined : goal.returns-clause-joined
returns-clause-joined c = windows_join

pub returns-clause-ends : goal.returns-clause-ends
returns-clause-ends c = ends_meet
