-- So many events are no more than all.
use Rattle.std.proofs.Common.{suc, length, ap, arith}
use Rattle.std.proofs.lemmas.List.{get_or_default}
use Rattle.fm_line.specs.declared.line.Line.{Line}
use Rattle.fm_line.specs.Line.{line, no_line}
use Rattle.fm_hall.proofs.Halls.{sum_up}
use Rattle.fm_hall.proofs.hall.count_events.Goals as goal

pub overflow_add-count : goal.overflow_add-count
overflow_add-count c =
    let lines = c.args.lines.now in
    let i = c.loop-i.i in
    let before = c.loop-i-test.true in
    let same = ap (λ (l : Line). length l.events) (get_or_default lines i c.index-lines-i.result no_line before) in
    let here = ap length c.as_slice.ensures in
    let up = sum_up (length lines) (suc i) (λ p. length (line lines p).events) (omega arith) in
    let so_far = c.loop-i.invariant in
    let few = c.requires in omega arith
