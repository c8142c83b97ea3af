use Rattle.fm_grammar.proofs.Texts.{text_verdict}
use Rattle.fm_grammar.proofs.laws.text_reads_or_trips.Goals as goal

pub returns : goal.returns
returns c = text_verdict c.args.text.now
