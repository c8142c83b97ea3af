-- A seat holds a process exactly where its count is above 0.
use Rattle.std.proofs.Common.{◌<◌, length, sym, ap, ◌∙◌, subst, arith}
use Rattle.std.proofs.lemmas.List.{get_or_default}
use Rattle.fm_core.specs.State.{held_by, unborn}
use Rattle.fm_core.specs.Steps.{holding}
use Rattle.fm_state.specs.Stored.{Stored}
use Rattle.fm_state.proofs.Desks.{seat_there}
use Rattle.fm_state.proofs.Counts.{counted_is}
use Rattle.fm_state.proofs.tables.Tables.is_holding.Goals as goal

pub returns : goal.returns
returns c =
    let m = c.self.inside in
    let desk : c.args.seat < length m.desks.items = seat_there m.desks.items c.args.seat
    (subst (λ (m : Stored). c.args.seat < length m.state.desks) (sym c.self.view_is) c.requires) in
    let there : c.args.seat < length m.holds.items = omega (arith, desk, c.self.invariant.seats) in
    let count = c.index.ensures ∙ get_or_default m.holds.items c.args.seat c.index.result.now 0 there
    ∙ c.self.invariant.counted c.args.seat there in
    counted_is (held_by c.args.seat) unborn c.index.result.now m.cells.items count
    ∙ ap (λ (m : Stored). holding m.state c.args.seat) c.self.view_is
