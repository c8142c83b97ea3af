-- The first event above the lead is found, or there is none.
use Rattle.std.proofs.Common.{rules, ◌≡◌, ◌+◌, false, sym, arith}
use Rattle.std.specs.Prelude.{not}
use Rattle.fm_line.specs.Line.{upper}
use Rattle.fm_core.specs.Floors.{within}
use Rattle.fm_core.proofs.Below.{any_at, not_any}
use Rattle.fm_core.proofs.Booleans.{true_from}
use Rattle.fm_hall.proofs.refusals.is_above_lead.Goals as goal

pub returns-then-not-is_within : goal.returns-then-not-is_within
returns-then-not-is_within c =
    let a = c.args in
    let here : within a.floor a.lead (upper a.own.now (a.from + c.loop-index.index)) ≡ false = search rules in
    sym (any_at a.count (λ i. not (within a.floor a.lead (upper a.own.now (a.from + i)))) c.loop-index.index
    c.loop-index-test.true (true_from _ here))

pub returns : goal.returns
returns c =
    let a = c.args in
    let past = c.loop-index-test.false in
    sym (not_any a.count (λ i. not (within a.floor a.lead (upper a.own.now (a.from + i))))
    (λ q lt. c.loop-index.invariant q (omega arith)))
