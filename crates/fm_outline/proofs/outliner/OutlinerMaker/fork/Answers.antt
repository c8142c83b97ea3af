use Rattle.fm_outline.proofs.BlockLemmas.{forked_made}
use Rattle.fm_outline.proofs.outliner.OutlinerMaker.fork.Goals as goal

pub returns : goal.returns
returns c = λ before bs all.
    forked_made before c.args.self.now c.args.spot bs c.args.branches c.step.result all c.step.ensures.spot
    c.step.ensures.what c.step.ensures.asking
