-- What a sort leaves are the events in their order.
use Rattle.std.proofs.Common.{refl}
use Rattle.std.proofs.lemmas.List.Sorted.{length_permutation}
use Rattle.fm_buffer.proofs.Settled.{settled}
use Rattle.fm_state.proofs.tables.settle_all.Goals as goal

pub returns-clause-order : goal.returns-clause-order
returns-clause-order c =
    let order = settled _ _ c.requires c.settle.ensures.permutation c.settle.ensures.sorted in
    rw (← c.settle.ensures.capacity, ← order) refl

pub returns-clause-many : goal.returns-clause-many
returns-clause-many c = length_permutation _ _ c.settle.ensures.permutation
