-- Two walks go the same way.
use Rattle.fm_audit.proofs.OneVerdict.{one_verdict}
use Rattle.fm_audit.proofs.laws.records_have_one_verdict.Goals as goal

pub returns : goal.returns
returns c = one_verdict
