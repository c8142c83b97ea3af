-- The seat's paced floor is the floor, and nothing else changed.
use Rattle.std.proofs.Common.{◌<◌, length, refl, sym, ap, ◌∙◌, subst}
use Rattle.fm_core.specs.State as core
use Rattle.fm_core.specs.Effects.{with_desk}
use Rattle.fm_state.specs.Stored.{Stored}
use Rattle.fm_state.specs.contracts.tables.Tables.{the_view}
use Rattle.fm_state.proofs.Desks.{desk_set, with_desks, seat_there}
use Rattle.fm_state.proofs.tables.Tables.pace.Goals as goal

pub returns : goal.returns
returns c =
    let m = c.self.inside in
    let lt = seat_there m.desks.items c.args.seat
    (subst (λ (m : Stored). c.args.seat < length m.state.desks) (sym c.self.view_is) c.requires) in
    ap (with_desks (the_view m)) (desk_set (λ d. record d { paced = m.floor }) m.desks.items c.args.seat
    c.index_mut.result.now (record (c.index_mut.result.now) { paced = m.floor }) lt c.index_mut.ensures.value refl)
    ∙ ap (λ (m : Stored). record m {
      state = with_desk m.state c.args.seat
          (record (core.desk m.state c.args.seat) { paced = m.state.floor });
    }) c.self.view_is
