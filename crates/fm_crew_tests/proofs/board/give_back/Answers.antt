use Rattle.std.proofs.Common.{sym, ap, subst}
use Rattle.fm_board.specs.Calls.{MayComeBack}
use Rattle.fm_board.specs.Seats.{SeatState}
use Rattle.fm_board.specs.declared.view.View.{View}
use Rattle.fm_board.proofs.Advancing.{gives_recorded}
use Rattle.fm_crew_tests.proofs.board.give_back.Goals as goal

pub give-requires-clause-may : goal.give-requires-clause-may
give-requires-clause-may c =
    subst (λ (v : View). MayComeBack c.args.board.now.about v c.args.berth.process c.args.berth.strand c.args.berth.outbox)
    (sym (ap (λ (x : SeatState). x.mind.view) c.record.ensures.seat))
    (gives_recorded c.args.board.now.about c.args.seat.now.mind.view c.args.berth c.args.answer c.requires.made c.in-Ended.is)
