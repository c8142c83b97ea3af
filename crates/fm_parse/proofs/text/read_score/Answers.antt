use Rattle.fm_parse.proofs.Built.{score_built}
use Rattle.fm_parse.proofs.text.read_score.Goals as goal

pub returns-clause-reads : goal.returns-clause-reads
returns-clause-reads c =
    score_built c.args.source.now _ _ _ _ _ c.new.ensures.entries c.head-head.ensures
    (c.in_ok-builder.ensures.reads c.args.source.now c.in_ok-reader.ensures.begins) c.score.ensures.score c.score.ensures.whole
