-- The look is entered in the seat's sweep, and nothing else changed.
use Rattle.std.proofs.Common.{◌<◌, length, sym, ap, ◌∙◌, subst}
use Rattle.fm_core.specs.State as core
use Rattle.fm_core.specs.Effects.{with_desk}
use Rattle.fm_core.specs.Sweep.{swept}
use Rattle.fm_state.specs.Stored.{Stored}
use Rattle.fm_state.specs.contracts.tables.Tables.{the_view}
use Rattle.fm_state.proofs.Desks.{desk_set, with_desks, seat_there}
use Rattle.fm_state.proofs.tables.Tables.enter.Goals as goal

pub returns : goal.returns
returns c =
    let m = c.self.inside in
    let lt = seat_there m.desks.items c.args.seat
    (subst (λ (m : Stored). c.args.seat < length m.state.desks) (sym c.self.view_is) c.requires.seat) in
    ap (with_desks (the_view m)) (desk_set (λ d. record d { sweep = swept d.sweep c.args.process c.args.sight })
    m.desks.items c.args.seat c.index_mut.result.now c.enter_sight.new.desk lt c.index_mut.ensures.value
    c.enter_sight.ensures.desk)
    ∙ ap (λ (m : Stored). record m {
      state = with_desk m.state c.args.seat
          (record (core.desk m.state c.args.seat) { sweep = swept (core.desk m.state c.args.seat).sweep c.args.process c.args.sight });
    })
    c.self.view_is
