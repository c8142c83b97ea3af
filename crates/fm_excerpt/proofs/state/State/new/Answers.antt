use Rattle.fm_excerpt.proofs.StateLemmas.{holds_nothing, nothing_in_range}
use Rattle.fm_excerpt.proofs.state.State.new.Goals as goal

pub invariant_of-result : goal.invariant_of-result
invariant_of-result c = nothing_in_range

pub returns : goal.returns
returns c = holds_nothing
