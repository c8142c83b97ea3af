use Rattle.std.proofs.Common.{ap, ◌∙◌, arith}
use Rattle.fm_pattern.specs.Cycle.{entry_at}
use Rattle.fm_pattern.proofs.Cycles.{nexts_are, stands_at_first}
use Rattle.fm_pattern.proofs.laws.kth_next_is_the_entry_at_k.Goals as goal

pub returns : goal.returns
returns c = λ list results last some calls k lt.
    nexts_are list 0 results last 0 calls (stands_at_first list some) k lt ∙ ap (entry_at list) (omega arith)
