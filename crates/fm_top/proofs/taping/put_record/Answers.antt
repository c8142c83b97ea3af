use Rattle.fm_top.proofs.OnRecord.{put_broken}
use Rattle.fm_top.proofs.taping.put_record.Goals as goal

pub returns-clause-err : goal.returns-clause-err
returns-clause-err g c =
    put_broken {K = g.row.K.Denot} g.K.Append.seen c.put-2.result c.args.sink.now c.put.new.self
    c.put-2.new.self _ _ _ _ _ c.bytes.ensures c.requires.none c.steps-steps.ensures.value c.in_ok-put.ensures.ok c.put-2.ensures.err
