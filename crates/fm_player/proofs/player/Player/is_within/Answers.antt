use Rattle.std.proofs.Common.{arith}
use Rattle.std.proofs.lemmas.Bool.{leb-true}
use Rattle.fm_player.proofs.ReadLemmas.{clock-within}
use Rattle.fm_player.proofs.player.Player.is_within.Goals as goal

pub returns-then-onset-limit : goal.returns-then-onset-limit
returns-then-onset-limit c = λ p course free is.
    clock-within p c.args.self.now c.args.limit course free (omega (arith, c.if-onset-limit.true, c.onset.ensures))
    (let low = leb-true _ _ is in omega (arith, low, c.tick.ensures))
