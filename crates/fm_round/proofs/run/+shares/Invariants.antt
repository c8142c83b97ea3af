use Rattle.std.proofs.Common.{◌+◌, ◌-◌, ◌*◌}
use Rattle.fm_round.proofs.run.+shares.Given as goal

abbrev pub decreases-share_both-back : goal.decreases-share_both-back
decreases-share_both-back g l = 4 * l.two.workers + 1

abbrev pub decreases-share_both-front : goal.decreases-share_both-front
decreases-share_both-front g l = 4 * l.one.workers + 1

abbrev pub decreases-share : goal.decreases-share
decreases-share g l = 4 * l.chain.workers

abbrev pub decreases-share_both : goal.decreases-share_both
decreases-share_both g l = 4 * (l.parts.0.workers + l.parts.1.workers) - 1
