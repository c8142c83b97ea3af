use Rattle.std.proofs.Common.{arith}
use Rattle.fm_player.proofs.SoundLemmas.{pending-none, starts}
use Rattle.fm_player.proofs.pending.Pending.time.Goals as goal

pub returns-then-self-len-clause-some : goal.returns-then-self-len-clause-some
returns-then-self-len-clause-some c = λ j. starts j c.args.self.now c.next_time.result (omega arith) c.next_time.ensures

pub returns-else-self-len-clause-none : goal.returns-else-self-len-clause-none
returns-else-self-len-clause-none c = λ _ j. pending-none j c.args.self.now (omega arith)
