-- The first one found is the least, and where none is found it holds of none.
use Rattle.std.proofs.Common.{rules, ◌≡◌, length, true, sym, arith}
use Rattle.fm_progress.specs.NextStep.{startable}
use Rattle.fm_core.proofs.Below.{first_is, none_is}
use Rattle.fm_hall.proofs.searches.first_starting.Goals as goal

pub returns-then-can_start : goal.returns-then-can_start
returns-then-can_start c =
    let h = c.args.tables.now.state in let p = c.loop-process.process in
    let here : (startable c.args.rules.now h) p ≡ true = search rules in
    sym (first_is (length h.cells) (startable c.args.rules.now h) p (omega arith) here c.loop-process.invariant)

pub returns : goal.returns
returns c =
    let h = c.args.tables.now.state in let past = c.loop-process-test.false in
    sym (none_is (length h.cells) (startable c.args.rules.now h) (λ q lt. c.loop-process.invariant q (omega arith)))
