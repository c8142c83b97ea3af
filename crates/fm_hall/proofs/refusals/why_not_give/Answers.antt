-- Behind the first four tests the later ones decide.
use Rattle.std.proofs.Common.{length, sym, ◌∙◌, ap, arith}
use Rattle.std.specs.Prelude.{◌<◌}
use Rattle.fm_core.specs.State.{held_by}
use Rattle.fm_hall.proofs.Giving.{give_on}
use Rattle.fm_hall.proofs.refusals.why_not_give.Goals as goal

pub returns : goal.returns
returns c =
    let a = c.args in let g = a.rules.now in let h = a.tables.now.state in
    let seat : a.seat < length h.desks = omega arith in
    let process : a.process < length h.cells = omega arith in
    let held = sym (c.is_held_by.ensures ∙ ap (held_by a.seat) c.cell-from.ensures) ∙ c.if-not-is_held_by.false in
    let take = c.if-handed-must_be_taken.false ∙ c.must_be_taken.ensures in
    let later = rw (c.line-own.ensures.value, c.cell-from.ensures) at c.why_not_given.ensures in
    give_on g h a.seat a.process a.handed.taken a.handed.computed a.handed.clock a.handed.ended seat process held take
    c.why_not_given.result later
