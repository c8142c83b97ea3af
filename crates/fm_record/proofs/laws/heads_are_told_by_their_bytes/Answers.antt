-- The parts are read back.
use Rattle.fm_record.proofs.HeadLemmas.{head_back, one_head}
use Rattle.fm_record.proofs.laws.heads_are_told_by_their_bytes.Goals as goal

pub returns-clause-back : goal.returns-clause-back
returns-clause-back c = head_back

pub returns-clause-one : goal.returns-clause-one
returns-clause-one c = one_head
