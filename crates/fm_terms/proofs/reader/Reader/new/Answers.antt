-- The reader begins with the tokens of the text.
use Rattle.fm_terms.proofs.Opening.{opens, opens_once, opens_ill}
use Rattle.fm_terms.proofs.reader.Reader.new.Goals as goal

pub invariant_of-result : goal.invariant_of-result
invariant_of-result c = opens_once c.args.source.now _ _ _ c.new-lexer.ensures c.in-Ok.ensures.gives
    c.next.ensures.moves

pub returns-in-Ok-clause-ok : goal.returns-in-Ok-clause-ok
returns-in-Ok-clause-ok c = opens c.args.source.now _ _ _ c.new-lexer.ensures c.in-Ok.ensures.gives c.next.ensures.moves

pub returns-in-Err-clause-fault : goal.returns-in-Err-clause-fault
returns-in-Err-clause-fault c = opens_ill c.args.source.now _ _ c.new-lexer.ensures c.in-Err.ensures.gives
