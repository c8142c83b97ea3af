use Rattle.fm_parts.proofs.ReadBackLemmas.{parts_read, parts_heard}
use Rattle.fm_parts.proofs.laws.parts_are_read_back.Goals as goal

pub returns-clause-read : goal.returns-clause-read
returns-clause-read c = parts_read

pub returns-clause-tracks : goal.returns-clause-tracks
returns-clause-tracks c = parts_heard
