-- Where an event of the first list is past the key, none of the second one goes; else as many as its own prefix has.
use Rattle.std.proofs.Common.{ap, sym, ◌∙◌, arith, append_assoc, length-append}
use Rattle.fm_buffer.proofs.Through.{both_counted, both_taken, count_through-part, count_through-within}
use Rattle.fm_buffer.proofs.outbox.gather_both.Goals as goal

pub returns-then-taken-front-clause-count : goal.returns-then-taken-front-clause-count
returns-then-taken-front-clause-count c =
    let count = c.gather_through-taken.ensures.count in
    count ∙ sym (count_through-part c.args.key c.args.front.now c.args.back.now (rw (← count) c.if-taken-front.true))

pub overflow_add-result : goal.overflow_add-result
overflow_add-result c =
    let few = c.requires.few in
    let first = count_through-within c.args.key c.args.front.now in
    let second = count_through-within c.args.key c.args.back.now in
    let one = c.gather_through-taken.ensures.count in
    let two = c.gather_through.ensures.count in
    let all = length-append c.args.front.now c.args.back.now in omega arith

pub returns-clause-count : goal.returns-clause-count
returns-clause-count c =
    both_counted c.args.key c.args.front.now c.args.back.now c.gather_through-taken.result c.gather_through.result
    c.gather_through-taken.ensures.count (omega (arith, c.if-taken-front.false)) c.gather_through.ensures.count

pub returns-clause-taken : goal.returns-clause-taken
returns-clause-taken c =
    let within = count_through-within c.args.key c.args.front.now in
    let count = c.gather_through-taken.ensures.count in
    let whole = both_taken c.args.front.now c.args.back.now c.gather_through-taken.result c.gather_through.result
    (omega (arith, c.if-taken-front.false)) in
    rw (c.gather_through.ensures.taken, c.gather_through-taken.ensures.taken, ← whole)
    (ap (λ xs. record c.args.gather.now { events = xs }) (append_assoc c.args.gather.now.events _ _))
