use Rattle.fm_grammar.proofs.Texts.{table_goes, table_trips}
use Rattle.fm_grammar.proofs.laws.table_is_the_grammar.Goals as goal

pub returns-clause-goes : goal.returns-clause-goes
returns-clause-goes c = table_goes

pub returns-clause-trips : goal.returns-clause-trips
returns-clause-trips c = table_trips
