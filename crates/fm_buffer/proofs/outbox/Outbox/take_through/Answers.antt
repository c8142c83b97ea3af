-- The two slices of the ring are the events that wait.
use Rattle.std.proofs.Common.{arith}
use Rattle.fm_buffer.proofs.Through.{count_through-within, count_through_is_longest}
use Rattle.fm_buffer.proofs.outbox.Outbox.take_through.Goals as goal

pub overflow_sub-left : goal.overflow_sub-left
overflow_sub-left c =
    let within = count_through-within c.args.key c.self.inside.ring.items in
    let count = rw c.as_slices.ensures at c.gather_both-taken.ensures.count in
    let waiting = c.len.ensures.len in omega arith

pub overflow_cast-result : goal.overflow_cast-result
overflow_cast-result c =
    let within = count_through-within c.args.key c.self.inside.ring.items in
    let count = rw c.as_slices.ensures at c.gather_both-taken.ensures.count in
    let few = c.self.invariant.within in
    let most = c.self.invariant.most in omega arith

pub returns-clause-longest : goal.returns-clause-longest
returns-clause-longest c =
    rw (c.gather_both-taken.ensures.count, c.as_slices.ensures, ← c.self.view_is)
    (count_through_is_longest c.args.key c.self.inside.ring.items)
