use Rattle.std.proofs.Common.{arith}
use Rattle.fm_player.proofs.SoundLemmas.{pending-none}
use Rattle.fm_player.proofs.pending.Pending.is_left.Goals as goal

pub returns-clause-none : goal.returns-clause-none
returns-clause-none c = λ no j. pending-none j c.args.self.now (grind (arith, no))
