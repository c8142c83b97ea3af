-- The next token is there.
use Rattle.std.proofs.Common.{sym}
use Rattle.fm_lex.specs.Tokens.{lexeme_of}
use Rattle.fm_terms.proofs.Steps.{there_from}
use Rattle.fm_terms.proofs.reader.Reader.next_is.Goals as goal

pub returns-clause-there : goal.returns-clause-there
returns-clause-there c = there_from (lexeme_of c.self.inside.next) _ _ (sym c.self.view_is)
