-- The limit, and then the token.
use Rattle.std.proofs.Common.{◌+◌}
use Rattle.fm_terms.proofs.Steps.{on_ok, passed, handed, deep_says, kind_there}
use Rattle.fm_terms.proofs.expr.expect_within.Goals as goal

pub returns-in_err-check_limit-clause-follows : goal.returns-in_err-check_limit-clause-follows
returns-in_err-check_limit-clause-follows c = λ F u below opens.
    let e = c.in_err-check_limit.field-0.0 in
    let is = passed c.from_residual.result e c.from_residual.ensures.1 in
    let deep = c.in_err-check_limit.ensures.deep in
    handed F (u + 1) below _ e _ is (deep_says F _ _ e _ deep
    ((opens deep.token deep.is (kind_there deep.token _ _ deep.is c.requires.first)).0 deep.passes))

pub returns-clause-within : goal.returns-clause-within
returns-clause-within c = on_ok _ c.in_ok-check_limit.ensures.within

pub returns-clause-follows : goal.returns-clause-follows
returns-clause-follows c = λ F u below opens.
    let there = c.in_ok-check_limit.ensures.there in
    c.expect.ensures.inside F u below
    ((opens there.token there.is (kind_there there.token _ _ there.is c.requires.first)).1
    c.in_ok-check_limit.ensures.within)
