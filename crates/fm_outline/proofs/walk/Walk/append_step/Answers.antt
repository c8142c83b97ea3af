use Rattle.std.proofs.lemmas.Result.{on_ok_weaker}
use Rattle.fm_outline.specs.View.{tables_view}
use Rattle.fm_outline.proofs.WalkLemmas.{play_walked}
use Rattle.fm_outline.proofs.walk.Walk.append_step.Goals as goal

pub returns : goal.returns
returns c =
    on_ok_weaker c.append.result
    (λ pushed score rest stmt t r made. play_walked (tables_view c.args.self.now.tables) c.args.step r pushed made) c.append.ensures
