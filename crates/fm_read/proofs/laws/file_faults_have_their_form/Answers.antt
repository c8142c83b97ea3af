use Rattle.fm_read.proofs.FileFaultRead.{no_file_read}
use Rattle.fm_read.proofs.FileFaultTook.{file_fails}
use Rattle.fm_read.proofs.laws.file_faults_have_their_form.Goals as goal

pub returns-clause-form : goal.returns-clause-form
returns-clause-form c = file_fails

pub returns-clause-read : goal.returns-clause-read
returns-clause-read c = no_file_read
