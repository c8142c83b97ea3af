use Rattle.std.proofs.Common.{arith}
use Rattle.fm_meaning.proofs.Versions.{few_processes}
use Rattle.fm_check.proofs.WalkLemmas.{ends}
use Rattle.fm_check.proofs.totals.finish.Goals as goal

pub overflow_cast-result : goal.overflow_cast-result
overflow_cast-result c =
    let s = c.requires.0 in
    let e = ends s c.args.before c.whole-whole.result c.whole-whole.ensures c.requires.1 in
    omega (arith, e.processes, few_processes s)

pub overflow_cast-result-2 : goal.overflow_cast-result-2
overflow_cast-result-2 c =
    let e = ends c.requires.0 c.args.before c.whole-whole.result c.whole-whole.ensures c.requires.1 in
    omega (arith, e.operations)

pub overflow_cast-result-3 : goal.overflow_cast-result-3
overflow_cast-result-3 c =
    let e = ends c.requires.0 c.args.before c.whole-whole.result c.whole-whole.ensures c.requires.1 in
    omega (arith, e.events)

pub overflow_cast-result-4 : goal.overflow_cast-result-4
overflow_cast-result-4 c =
    let e = ends c.requires.0 c.args.before c.whole-whole.result c.whole-whole.ensures c.requires.1 in
    omega (arith, e.steps)

pub returns : goal.returns
returns c = λ s left. (ends s c.args.before c.whole-whole.result c.whole-whole.ensures left).bounds
