use Rattle.fm_top.proofs.AskedToPlay.{asks_to_play, to_play}
use Rattle.fm_top.proofs.laws.words_that_play.Goals as goal

pub returns : goal.returns
returns c = (asks_to_play c.args.words.now, to_play c.args.words.now)
