-- The operation that comes next, where there is one.
use Rattle.std.proofs.Common.{sym}
use Rattle.std.proofs.lemmas.Option.{slice_get-get_or}
use Rattle.fm_player.proofs.player.Player.next_op.Goals as goal

pub returns-then-self-ops-clause-op : goal.returns-then-self-ops-clause-op
returns-then-self-ops-clause-op c =
    rw (← c.program.ensures.value, ← c.as_slice-ops.ensures.value)
    (sym (slice_get-get_or c.as_slice-ops.result.now c.args.self.now.operation _ c.if-self-ops.true))
