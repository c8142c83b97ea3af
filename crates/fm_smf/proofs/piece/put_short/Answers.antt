-- A delta time of a byte and three bytes are put by one call.
use Rattle.std.proofs.Common.{ap, length}
use Rattle.fm_edge.proofs.Chains.{on_err}
use Rattle.fm_smf.proofs.Deltas.{delta-short}
use Rattle.fm_smf.proofs.piece.put_short.Goals as goal

pub returns-in_err-put-clause-err : goal.returns-in_err-put-clause-err
returns-in_err-put-clause-err g c =
    let bytes = delta-short c.args.ticks c.args.tail.now c.requires.short c.requires.three in
    on_err c.from_residual.result (rw bytes at c.in_err-put.ensures.err)

pub returns-clause-count : goal.returns-clause-count
returns-clause-count g c = ap length (delta-short c.args.ticks c.args.tail.now c.requires.short c.requires.three)

pub returns-clause-ok : goal.returns-clause-ok
returns-clause-ok g c =
    let bytes = delta-short c.args.ticks c.args.tail.now c.requires.short c.requires.three in
    rw bytes at c.in_ok-put.ensures.ok
