-- What a give takes is there, and there is memory for it.
use Rattle.std.proofs.Common.{◌+◌, ◌≤◌, List, sym, ap, subst, length, take, arith}
use Rattle.std.proofs.lemmas.List.{length-take-le}
use Rattle.fm_msg.specs.Event.{TimedMessage}
use Rattle.fm_hall.proofs.Halls.{taken_there, taken_le, computed_le, take_fits}
use Rattle.fm_hall.proofs.effects.give.Goals as goal

pub given_cell-next-requires-clause-computed : goal.given_cell-next-requires-clause-computed
given_cell-next-requires-clause-computed c =
    let a = c.args in
    let same = ap (λ x. x.computed) c.cell-from.ensures in
    let le = computed_le _ _ c.requires.hall a.seat a.process a.handed.taken a.handed.computed a.handed.clock a.handed.ended
    c.requires.allowed in
    omega arith

pub given_cell-next-requires-clause-taken : goal.given_cell-next-requires-clause-taken
given_cell-next-requires-clause-taken c =
    let a = c.args in
    let same = ap (λ x. x.computed) c.cell-from.ensures in
    let also = ap (λ x. x.taken) c.cell-from.ensures in
    let le = taken_le _ _ c.requires.hall a.seat a.process a.handed.taken a.handed.computed a.handed.clock a.handed.ended
    c.requires.allowed in
    omega arith

pub slice_bounds-take-end : goal.slice_bounds-take-end
slice_bounds-take-end c =
    let a = c.args in
    let there = taken_there _ _ c.requires.hall a.seat a.process a.handed.taken a.handed.computed a.handed.clock a.handed.ended
    c.requires.allowed in
    let same = ap length c.waiting_events.ensures.value in
    sym (length-take-le a.handed.taken c.waiting_events.result.now (omega arith))

pub take-requires : goal.take-requires
take-requires c =
    let a = c.args in
    subst (λ (es : List TimedMessage). length a.tables.now.state.gather + length (take a.handed.taken es) ≤ a.tables.now.gathers)
    (sym c.waiting_events.ensures.value)
    (take_fits _ _ c.requires.hall a.seat a.process a.handed.taken a.handed.computed a.handed.clock a.handed.ended c.requires.allowed)
