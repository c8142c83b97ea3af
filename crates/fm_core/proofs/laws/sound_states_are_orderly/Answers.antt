use Rattle.fm_core.proofs.OrderlyStates.{orderly}
use Rattle.fm_core.proofs.laws.sound_states_are_orderly.Goals as goal

pub returns : goal.returns
returns c = orderly
