use Rattle.std.proofs.Common.{◌∙◌, ◌+◌, ◌*◌, length, ap}
use Rattle.fm_smf.specs.Track.{filler_count}
use Rattle.fm_smf.proofs.Fillers.{length-delta}
use Rattle.fm_parts.proofs.event.length_after.Goals as goal

pub returns-clause-value : goal.returns-clause-value
returns-clause-value c =
    let piece = rw c.fillers_before-count.ensures at c.piece_of-piece.ensures in
    rw (c.fillers_before-count.ensures, length-delta)
    (ap (λ z. 7 * filler_count c.args.ticks + z) (c.len.ensures.value ∙ ap length piece))
