use Rattle.std.proofs.Common.{refl}
use Rattle.fm_buffer.proofs.Settled.{settled}
use Rattle.fm_round.proofs.release.settle.Goals as goal

pub returns : goal.returns
returns c =
    let order = settled _ _ c.requires c.settle.ensures.permutation c.settle.ensures.sorted in
    rw (← c.settle.ensures.capacity, ← order) refl
