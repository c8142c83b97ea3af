use Rattle.fm_grammar.proofs.Texts.{one_score}
use Rattle.fm_grammar.proofs.laws.reads_once.Goals as goal

pub returns : goal.returns
returns c = one_score
