-- Behind the end nothing follows.
use Rattle.std.proofs.Common.{sym}
use Rattle.fm_lex.specs.Tokens.{lexeme_of}
use Rattle.fm_terms.proofs.Marks.{over_from}
use Rattle.fm_terms.proofs.reader.Reader.at_end.Goals as goal

pub returns : goal.returns
returns c = λ last. over_from (lexeme_of c.self.inside.next) _ _ (sym c.self.view_is) last
