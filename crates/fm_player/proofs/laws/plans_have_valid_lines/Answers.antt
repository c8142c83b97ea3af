use Rattle.fm_player.proofs.ValidLemmas.{lines-valid}
use Rattle.fm_player.proofs.laws.plans_have_valid_lines.Goals as goal

pub returns : goal.returns
returns c = λ p fits. lines-valid p fits
