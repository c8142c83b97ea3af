use Rattle.fm_read.proofs.FileWritten.{file_written, one_track}
use Rattle.fm_read.proofs.Messages.{track_messages, track_decoded, track_end}
use Rattle.fm_read.proofs.laws.files_read_back.Goals as goal

pub returns-clause-read : goal.returns-clause-read
returns-clause-read c = file_written

pub returns-clause-track : goal.returns-clause-track
returns-clause-track c = one_track

pub returns-clause-bytes : goal.returns-clause-bytes
returns-clause-bytes c = track_messages

pub returns-clause-messages : goal.returns-clause-messages
returns-clause-messages c = track_decoded

pub returns-clause-end : goal.returns-clause-end
returns-clause-end c = track_end
