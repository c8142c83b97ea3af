use Rattle.fm_read.proofs.Joined.{entries_joined}
use Rattle.fm_read.proofs.FormTook.{track_took}
use Rattle.fm_read.proofs.FormRead.{track_read}
use Rattle.fm_read.proofs.laws.tracks_have_their_form.Goals as goal

pub returns-clause-form : goal.returns-clause-form
returns-clause-form c = track_took

pub returns-clause-same : goal.returns-clause-same
returns-clause-same c = entries_joined

pub returns-clause-read : goal.returns-clause-read
returns-clause-read c = track_read
