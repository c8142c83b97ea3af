use Rattle.std.proofs.Common.{[]}
use Rattle.fm_line.proofs.OutRising.{come_out-runs, come_out-valid}
use Rattle.fm_line.proofs.laws.what_comes_out_never_falls.Goals as goal

pub returns-clause-runs : goal.returns-clause-runs
returns-clause-runs c = λ low e xs begins. come_out-runs low e [] xs tt begins

pub returns-clause-valid : goal.returns-clause-valid
returns-clause-valid c = come_out-valid
