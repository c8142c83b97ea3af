use Rattle.fm_core.proofs.OrderlyStates.{orderly}
use Rattle.fm_progress.proofs.NeverStuck.{goes_on}
use Rattle.fm_board.proofs.Looks.{valid_of}
use Rattle.fm_board.specs.StandsFor.{setting}
use Rattle.fm_board.proofs.laws.tables_are_orderly_and_never_stuck.Goals as goal

pub returns : goal.returns
returns c = record {
  orderly = λ a s k. orderly (setting a) k.core (valid_of a) k.sound;
  goes_on = λ a s k. goes_on (setting a) k.core (valid_of a) k.sound;
}
