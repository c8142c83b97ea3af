-- The first predecessor that is not ended is found, or there is none.
use Rattle.std.proofs.Common.{rules, ◌≡◌, true, false, length, sym, subst, arith}
use Rattle.std.specs.Prelude.{not, slice_index_or, List, ℕ}
use Rattle.fm_core.specs.Numbers.{any_below}
use Rattle.fm_core.specs.State.{cell}
use Rattle.fm_core.specs.Tags.{is_ended}
use Rattle.fm_core.proofs.Below.{any_at, not_any}
use Rattle.fm_hall.proofs.refusals.is_waiting.Goals as goal

pub returns-then-not-is_ended : goal.returns-then-not-is_ended
returns-then-not-is_ended c =
    let h = c.args.tables.now.state in
    let all = c.predecessors-predecessors in
    let here : not (is_ended (cell h (slice_index_or all.result.now c.loop-i.i 0)).tag) ≡ true = search rules in
    subst (λ (qs : List ℕ). true ≡ any_below (length qs) (λ i. not (is_ended (cell h (slice_index_or qs i 0)).tag)))
    all.ensures.value
    (sym (any_at (length all.result.now) (λ i. not (is_ended (cell h (slice_index_or all.result.now i 0)).tag))
    c.loop-i.i c.loop-i-test.true here))

pub returns : goal.returns
returns c =
    let h = c.args.tables.now.state in
    let all = c.predecessors-predecessors in
    let past = c.loop-i-test.false in
    subst (λ (qs : List ℕ). false ≡ any_below (length qs) (λ i. not (is_ended (cell h (slice_index_or qs i 0)).tag)))
    all.ensures.value
    (sym (not_any (length all.result.now) (λ i. not (is_ended (cell h (slice_index_or all.result.now i 0)).tag))
    (λ q lt. c.loop-i.invariant q (omega arith))))
