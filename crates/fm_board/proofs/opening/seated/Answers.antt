use Rattle.std.proofs.Common.{ap, ◌∙◌}
use Rattle.fm_board.specs.Plays.{Holder}
use Rattle.fm_board.specs.Seats.{SeatState}
use Rattle.fm_board.proofs.OneState.{stands_at_first}
use Rattle.fm_board.proofs.Tokens.{new_promise}
use Rattle.fm_board.proofs.opening.seated.Goals as goal

pub of-requires : goal.of-requires
of-requires c =
    new_promise c.args.board.about 0 c.args.board.about.seats _ c.args.board.about.crew.0
    (ap (λ (y : Holder). y.0) c.in_ok-others.ensures.first.1)

pub returns-clause-opening : goal.returns-clause-opening
returns-clause-opening c =
    let new = c.in_ok-others.ensures in
    let first : SeatState = record { table = c.of.result.table; mind = c.of.result.me.0 } in
    stands_at_first c.args.board.about first _ (ap (λ (y : Holder). y.0.log.mine) (c.of.ensures.2 ∙ new.first.1))
    (λ j d lt. ap (λ (x : SeatState). x.mind.log.mine) (new.others.each j d lt))
