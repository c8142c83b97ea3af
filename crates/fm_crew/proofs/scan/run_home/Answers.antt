use Rattle.fm_crew.proofs.Telling.{takes_held}
use Rattle.fm_crew.proofs.scan.run_home.Goals as goal

pub advance-requires-clause-told : goal.advance-requires-clause-told
advance-requires-clause-told g c =
    takes_held (g.B.Calls.shared c.args.board.now).about c.args.seat.now c.args.process c.args.seen.now _ c.claim.new.seat c.requires.above
    c.in-Held.ensures
