use Rattle.fm_progress.proofs.ComesToEnd.{plays_all}
use Rattle.fm_progress.proofs.laws.plays_the_piece.Goals as goal

pub returns : goal.returns
returns c = plays_all
