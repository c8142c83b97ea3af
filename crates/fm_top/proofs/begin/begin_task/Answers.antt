use Rattle.fm_top.proofs.Lefts.{record_not_taken}
use Rattle.fm_top.proofs.Locating.{unlocated}
use Rattle.fm_top.proofs.begin.begin_task.Goals as goal

pub returns-in-Err-clause-err : goal.returns-in-Err-clause-err
returns-in-Err-clause-err g c =
    record_not_taken {S = g.row.S.Denot} {K = g.row.K.Denot} g.S.Source.seen _ _ g.K.Append.seen _ c.in-Record.generate _
    c.in-Record.setup c.in-Err.fault c.in-Record.is c.in-Err.ensures.err

pub returns-in-Err-locate_tick-clause-err : goal.returns-in-Err-locate_tick-clause-err
returns-in-Err-locate_tick-clause-err g c =
    rw c.in-Locate.is
    (unlocated {S = g.row.S.Denot} {K = g.row.K.Denot} g.S.Source.seen c.args.source.now c.locate_tick.new.source g.K.Append.seen
    c.args.sink.now c.in-Locate.generate c.in-Locate.tick c.in-Locate.process c.in-Err-locate_tick.fault
    c.in-Err-locate_tick.ensures.err)
