use Rattle.std.proofs.Common.{◌≡◌, ℕ, ◌<◌, ◌≤◌, true}
use Rattle.fm_round.specs.Watching.{ended_at}
use Rattle.fm_round.proofs.begin.first_live.Given as goal

-- those in front have ended
abbrev pub invariant-loop-index : goal.invariant-loop-index
invariant-loop-index l = (i : ℕ) → l.from ≤ i → i < l.index → ended_at l.processes l.lanes i ≡ true
