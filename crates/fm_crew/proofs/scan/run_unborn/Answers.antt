use Rattle.fm_crew.proofs.Telling.{takes_fresh}
use Rattle.fm_crew.proofs.scan.run_unborn.Goals as goal

pub advance-requires-clause-told : goal.advance-requires-clause-told
advance-requires-clause-told g c =
    takes_fresh (g.B.Calls.shared c.args.board.now).about c.args.seat.now c.args.process c.start_process.new.seat _
    c.requires.idle.ours.plan
    c.in-Some.ensures.some
