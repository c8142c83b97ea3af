use Rattle.std.proofs.Common.{ap, sym, subst}
use Rattle.fm_outline.specs.Asking.{StepAsks}
use Rattle.fm_outline.specs.Forking.{throughout}
use Rattle.fm_outline.specs.View.{Placed}
use Rattle.fm_outline.proofs.SeenLemmas.{step_seen}
use Rattle.fm_outline.proofs.asking.step_at.Goals as goal

pub returns-clause-asking : goal.returns-clause-asking
returns-clause-asking c = λ t look same can.
    throughout _
    (subst (λ i. StepAsks t i c.needs_of-needs.result) (sym (ap (λ (p : Placed). p.what) (step_seen look _)))
    (c.needs_of-needs.ensures t look same can))
    can.those
