-- The first one found is the least, and where none is found it holds of none.
use Rattle.std.proofs.Common.{rules, ◌≡◌, length, true, sym, arith}
use Rattle.fm_progress.specs.Left.{workable}
use Rattle.fm_core.proofs.Below.{first_is, none_is, one_more}
use Rattle.fm_hall.proofs.searches.first_working.Goals as goal

pub returns-then-has_work : goal.returns-then-has_work
returns-then-has_work c =
    let h = c.args.tables.now.state in let p = c.loop-process.process in
    let here : (workable c.args.rules.now h) p ≡ true = search rules in
    sym (first_is (length h.cells) (workable c.args.rules.now h) p (omega arith) here c.loop-process.invariant)

pub loop-process-preserved : goal.loop-process-preserved
loop-process-preserved c =
    let h = c.args.tables.now.state in let p = c.loop-process.process in
    λ q lt. one_more (workable c.args.rules.now h) p (search rules) c.loop-process.invariant q (omega arith)

pub returns : goal.returns
returns c =
    let h = c.args.tables.now.state in let past = c.loop-process-test.false in
    sym (none_is (length h.cells) (workable c.args.rules.now h) (λ q lt. c.loop-process.invariant q (omega arith)))
