use Rattle.fm_read.proofs.FileLemmas.{file_joined}
use Rattle.fm_read.proofs.FileFormTook.{file_took}
use Rattle.fm_read.proofs.FileFormRead.{file_read}
use Rattle.fm_read.proofs.laws.files_have_their_form.Goals as goal

pub returns-clause-form : goal.returns-clause-form
returns-clause-form c = file_took

pub returns-clause-same : goal.returns-clause-same
returns-clause-same c = file_joined

pub returns-clause-read : goal.returns-clause-read
returns-clause-read c = file_read
