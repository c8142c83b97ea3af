use Rattle.fm_core.proofs.Keeps.{keeps, keeps_all}
use Rattle.fm_core.proofs.Opening.{opening_sound}
use Rattle.fm_core.proofs.laws.steps_keep_sound.Goals as goal

pub returns : goal.returns
returns c = record { opening = opening_sound; step = keeps; steps = keeps_all }
