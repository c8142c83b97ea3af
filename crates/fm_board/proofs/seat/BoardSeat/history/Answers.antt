use Rattle.std.proofs.Common.{subst}
use Rattle.fm_board.specs.Played.{IsPlayed}
use Rattle.fm_board.specs.Seats.{SeatState}
use Rattle.fm_board.proofs.Tokens.{played_now}
use Rattle.fm_board.proofs.seat.BoardSeat.history.Goals as goal

pub returns : goal.returns
returns c =
    let inner = played_now _ _ c.self-inside.invariant.0 c.self-inside.invariant.1 in
    subst (λ (x : SeatState). IsPlayed x.mind) c.self.view_is
    (subst (λ x. IsPlayed x.token.me.0) c.self-inside.view_is inner)
