-- A step is read back.
use Rattle.fm_record.proofs.ReadingLemmas.{read_back, one_step, all_steps}
use Rattle.fm_record.proofs.laws.steps_are_told_by_their_bytes.Goals as goal

pub returns-clause-back : goal.returns-clause-back
returns-clause-back c = read_back

pub returns-clause-one : goal.returns-clause-one
returns-clause-one c = one_step

pub returns-clause-all : goal.returns-clause-all
returns-clause-all c = all_steps
