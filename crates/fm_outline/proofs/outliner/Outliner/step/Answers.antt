use Rattle.fm_outline.proofs.outliner.Outliner.step.Goals as goal

pub returns-clause-asking : goal.returns-clause-asking
returns-clause-asking c = rw (← c.deref.ensures.value) c.step_at.ensures.asking
