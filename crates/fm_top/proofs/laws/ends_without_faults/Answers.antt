use Rattle.fm_top.proofs.WithoutFaults.{by_input}
use Rattle.fm_top.proofs.laws.ends_without_faults.Goals as goal

pub returns : goal.returns
returns c = by_input c.each_input_has_one_verdict.ensures
