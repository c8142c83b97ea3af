use Rattle.fm_read.proofs.DecodedLemmas.{whole_is_decoded, data_is_decoded}
use Rattle.fm_read.proofs.laws.messages_come_back.Goals as goal

pub returns-clause-whole : goal.returns-clause-whole
returns-clause-whole c = whole_is_decoded

pub returns-clause-data : goal.returns-clause-data
returns-clause-data c = data_is_decoded
