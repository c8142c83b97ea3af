use Rattle.std.proofs.Common.{[]}
use Rattle.fm_lex.proofs.LayoutLemmas.{laid}
use Rattle.fm_lex.proofs.laws.tokens_stand.Goals as goal

pub returns : goal.returns
returns c = (laid c.args.text.now).fresh []
