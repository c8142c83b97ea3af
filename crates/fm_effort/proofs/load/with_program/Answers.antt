use Rattle.std.proofs.Common.{◌+◌, ◌<◌, ◌≤◌, length, arith}
use Rattle.std.proofs.lemmas.List.{drop_more}
use Rattle.fm_program.specs.Parts.{program_parts}
use Rattle.fm_effort.specs.Effort.{largest}
use Rattle.fm_effort.proofs.FoldLemmas.{walked_more, walked_all}
use Rattle.fm_effort.proofs.load.with_program.Goals as goal

pub loop-at-preserved : goal.loop-at-preserved
loop-at-preserved c =
    let ops = c.as_slice-ops.result.now in
    let at = c.loop-at.at in
    let w = c.loop-at.invariant in
    let below : at < length ops = omega arith in
    let few : length w.around.counts + w.around.levels < largest = (let few = w.few in omega arith) in
    walked_more c.args.load c.loop-at.whole c.with_operation-whole.result (program_parts c.args.program.now) ops at
    c.loop-at.enclosing c.pass.new.self _ c.as_slice-ops.ensures.value (drop_more ops at _ below) w
    (c.with_operation-whole.ensures w.around w.keeps) (c.pass.ensures w.around few w.keeps)

pub returns : goal.returns
returns c =
    let all : length c.args.program.now.ops.items ≤ c.loop-at.at = omega arith in
    walked_all c.args.load c.loop-at.whole (program_parts c.args.program.now) c.loop-at.at c.loop-at.enclosing all
    c.loop-at.invariant
