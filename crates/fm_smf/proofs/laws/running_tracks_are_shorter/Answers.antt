use Rattle.fm_smf.proofs.Running.{track-plain, track-short}
use Rattle.fm_smf.proofs.laws.running_tracks_are_shorter.Goals as goal

pub returns-clause-plain : goal.returns-clause-plain
returns-clause-plain c = track-plain

pub returns-clause-short : goal.returns-clause-short
returns-clause-short c = track-short
