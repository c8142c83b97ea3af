use Rattle.std.proofs.Common.{length}
use Rattle.fm_parse.proofs.Onward.{Entering}
use Rattle.fm_parse.proofs.text.EntryReader.read.Given as goal

abbrev pub invariant-loop-relay : goal.invariant-loop-relay
invariant-loop-relay g l = Entering g.M.Maker.is_entered l.fn.maker l.relay.maker l.fn.self.left l.relay.rest

abbrev pub decreases-loop-relay : goal.decreases-loop-relay
decreases-loop-relay g l = length l.relay.rest
