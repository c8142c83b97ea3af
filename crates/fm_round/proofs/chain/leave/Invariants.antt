use Rattle.std.proofs.Common.{◌≡◌, ◌+◌, ◌-◌, ◌<◌, length}
use Rattle.fm_round.specs.Chain.{IsChain, OthersIdle, link}
use Rattle.fm_round.proofs.chain.leave.Given as goal

abbrev pub invariant-loop-next : goal.invariant-loop-next
invariant-loop-next l = record {
  chain : IsChain l.next.items;
  size : length l.next.items ≡ length l.lanes;
  idle : OthersIdle l.next.items l.lanes;
  on : 0 < link l.next.items l.at;
}

-- it goes on, or the number behind it grows
abbrev pub decreases-loop-next : goal.decreases-loop-next
decreases-loop-next l = (length l.lanes - l.at) + (length l.lanes - link l.next.items l.at)
