use Rattle.std.proofs.Common.{ap, subst}
use Rattle.fm_board.specs.Runs.{Extends}
use Rattle.fm_board.specs.Seats.{SeatState}
use Rattle.fm_board.specs.declared.view.Mind.{Mind}
use Rattle.fm_board.proofs.Recordings.{recorded_as, records_at}
use Rattle.fm_board.proofs.board.Board.write_last.Goals as goal

pub store-requires-clause-may : goal.store-requires-clause-may
store-requires-clause-may c =
    records_at _ c.args.self.now.about _ _ _ c.args.process _ _ c.args.seat.now c.args.self.now.same.0
    (ap (λ (x : SeatState). x.mind) c.seat.view_is)
    c.place_spot.ensures c.requires.may

pub returns-clause-seat : goal.returns-clause-seat
returns-clause-seat c =
    recorded_as c.args.self.now.about _ _ c.seat.inside.token.me c.store.new.self.me c.args.process _ c.args.seat.now c.requires.may
    c.store.ensures.told.0 c.store.ensures.kept.0 c.seat.view_is

pub returns-clause-extends : goal.returns-clause-extends
returns-clause-extends c =
    subst (λ (y : Mind). Extends y.view.number y.log c.store.new.self.me.0.log) (ap (λ (x : SeatState). x.mind) c.seat.view_is)
    c.store.ensures.told.2
