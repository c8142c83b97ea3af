use Rattle.std.proofs.Common.{rules, ◌≡◌, ◌+◌, ◌∙◌, ◌<◌, ◌^◌, true, nat_lt, sym}
use Rattle.fm_read.specs.Tracks.{as_pair}
use Rattle.fm_excerpt.proofs.StateLemmas.{state_taken}
use Rattle.fm_excerpt.proofs.state.state_before.Goals as goal

pub loop-entry-preserved-in-Some : goal.loop-entry-preserved-in-Some
loop-entry-preserved-in-Some c =
    let small : c.in-Some.entry.delta < 2 ^ 32 = search rules in
    let early : nat_lt (c.loop-entry.now + c.in-Some.entry.delta) c.args.begin ≡ true = search rules in
    state_taken _ _ _ _ (as_pair c.in-Some.entry) _ _ _ (sym c.message_from.ensures.value ∙ c.in-Some-message_from.is) early small
    c.take.ensures (rw c.in-Some.ensures.steps at c.loop-entry.invariant)
