use Rattle.fm_read.proofs.FaultTrack.{body_fails, no_body_read}
use Rattle.fm_read.proofs.laws.track_faults_have_their_form.Goals as goal

pub returns-clause-form : goal.returns-clause-form
returns-clause-form c = body_fails

pub returns-clause-read : goal.returns-clause-read
returns-clause-read c = no_body_read
