-- The walk over what follows the gap gives the token that stands there.
use Rattle.std.proofs.Common.{sym, ◌∙◌}
use Rattle.fm_lex.proofs.Steps.{walk-gives}
use Rattle.fm_lex.proofs.lexer.Lexer.next.Goals as goal

pub returns-clause-gives : goal.returns-clause-gives
returns-clause-gives c =
    let same = sym c.self.view_is ∙ c.skip_gap.ensures.same in
    rw (same, c.token_at-token.ensures.value) (walk-gives c.skip_gap.result.1 c.skip_gap.result.0.now c.skip_gap.ensures.begins)
