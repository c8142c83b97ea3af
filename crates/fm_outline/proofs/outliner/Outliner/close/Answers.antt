use Rattle.std.proofs.Common.{◌≡◌}
use Rattle.fm_rules.specs.declared.fault.CheckFault.TheVariants.{Refused}
use Rattle.fm_outline.proofs.EntryLemmas.{close_told}
use Rattle.fm_outline.proofs.outliner.Outliner.close.Goals as goal

pub returns-in-Some-clause-refused : goal.returns-in-Some-clause-refused
returns-in-Some-clause-refused c = λ why spot is.
    let same : c.in-Some.fault ≡ Refused why spot = cc in
    close_told c.args.self c.in-Some.fault why spot c.in-Some.is same
