-- The head of a text.
use Rattle.fm_lex.specs.Tokens.{tokens}
use Rattle.fm_grammar.specs.Table.{first_fault}
use Rattle.fm_terms.proofs.Steps.{passed}
use Rattle.fm_parse.proofs.Onward.{starts, just_begun}
use Rattle.fm_parse.proofs.Verdicts.{lexical_start, says_trips}
use Rattle.fm_parse.proofs.text.EntryReader.open.Goals as goal

pub returns-in_err-rest-clause-trips : goal.returns-in_err-rest-clause-trips
returns-in_err-rest-clause-trips c =
    let is = passed c.from_residual.result c.in_err-rest.field-0.0 c.from_residual.ensures.1 in
    rw is (lexical_start _ _ c.in_err-rest.ensures.fault)

pub returns-in_err-head-clause-trips : goal.returns-in_err-head-clause-trips
returns-in_err-head-clause-trips c =
    let e = c.in_err-head.field-0.0 in
    let is = passed c.from_residual-in_err-head.result e c.from_residual-in_err-head.ensures.1 in
    rw is (says_trips _ e (c.in_err-head.ensures.follows (first_fault (tokens c.args.source.now))
    (starts c.args.source.now _ c.in_ok-rest.ensures.ok)))

pub returns-clause-begins : goal.returns-clause-begins
returns-clause-begins c = just_begun c.args.source.now _ _ _ c.in_ok-rest.ensures.ok c.in_ok-head.ensures.text
    (c.in_ok-head.ensures.follows (first_fault (tokens c.args.source.now))
    (starts c.args.source.now _ c.in_ok-rest.ensures.ok))
