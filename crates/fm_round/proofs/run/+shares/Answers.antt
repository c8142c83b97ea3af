use Rattle.std.proofs.Common.{◌≡◌, ◌+◌, ◌-◌, ℕ, length, subst, arith}
use Rattle.fm_round.specs.Lanes.{RunsEach}
use Rattle.fm_round.proofs.Passing.{cut_from}
use Rattle.fm_round.proofs.Running.{runs_joined}
use Rattle.fm_round.proofs.run.+shares.Goals as goal

pub share-returns-clause-each : goal.share-returns-clause-each
share-returns-clause-each g t c =
    let up = cut_from c.args.round.now.next.now c.args.chain.first (c.args.chain.first + length c.args.lanes.now) c.args.chain.head c.middle-mid.result c.requires.chain.enters
    c.middle-mid.ensures (omega arith) in
    let number : c.middle-mid.result ≡ c.args.chain.first + (c.middle-mid.result - c.args.chain.first) = omega (arith, up) in
    runs_joined c.args.round.now.plan.now c.args.chain.first (c.middle-mid.result - c.args.chain.first) c.args.round.now.limit c.args.lanes.now
    c.split_at_mut-a.result.0.now
    c.split_at_mut-a.result.1.now
    c.share_both.new.a c.share_both.new.b c.split_at_mut-a.ensures.value c.split_at_mut-a.ensures.front_len c.share_both.auto.a
    c.share_both.ensures.ran_front
    (subst (λ (n : ℕ). RunsEach c.args.round.now.plan.now n c.args.round.now.limit c.split_at_mut-a.result.1.now c.share_both.new.b) number
    c.share_both.ensures.ran_back)
