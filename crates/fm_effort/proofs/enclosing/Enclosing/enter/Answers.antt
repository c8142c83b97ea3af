use Rattle.fm_effort.specs.Effort.{unsure_to}
use Rattle.fm_effort.proofs.enclosing.Enclosing.enter.Goals as goal

pub returns-in-Drawn : goal.returns-in-Drawn
returns-in-Drawn c = λ a few kept.
    rw c.in-Drawn.is (c.open-in-Drawn.ensures (unsure_to c.args.past a) few (c.leaves_out.ensures a kept))
