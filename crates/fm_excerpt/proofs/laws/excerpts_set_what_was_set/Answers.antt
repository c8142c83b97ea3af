use Rattle.fm_excerpt.proofs.ValueLemmas.{same_program, same_control, same_bend}
use Rattle.fm_excerpt.proofs.laws.excerpts_set_what_was_set.Goals as goal

pub returns-clause-programs : goal.returns-clause-programs
returns-clause-programs c = same_program

pub returns-clause-controls : goal.returns-clause-controls
returns-clause-controls c = same_control

pub returns-clause-bends : goal.returns-clause-bends
returns-clause-bends c = same_bend
