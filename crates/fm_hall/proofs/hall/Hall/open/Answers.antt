-- The opening is a hall with memory for all.
use Rattle.std.proofs.Common.{length, sym, ap, ◌∙◌, arith}
use Rattle.fm_line.specs.Line.{total}
use Rattle.fm_hall.proofs.Halls.{hall_opens}
use Rattle.fm_hall.proofs.hall.Hall.open.Goals as goal

pub invariant_of-result : goal.invariant_of-result
invariant_of-result c =
    let a = c.args in
    let many = c.len-processes.ensures ∙ sym c.deref.ensures.len ∙ ap length c.deref.ensures.value in
    let events = c.count_events-events.ensures ∙ ap total c.deref.ensures.value in
    let rules_are = c.new-2.ensures in
    let tables_are = c.in_ok-tables.ensures in
    let seats = c.requires.seats in
    rw (rules_are, tables_are, many, events)
    (hall_opens (record { lines = a.lines.items; room = a.room; lead = a.lead }) a.seats c.requires.setting (omega arith))
