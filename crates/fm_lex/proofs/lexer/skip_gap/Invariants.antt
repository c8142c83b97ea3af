use Rattle.std.proofs.Common.{◌≡◌, length}
use Rattle.fm_lex.specs.Tokens.{between, walk}
use Rattle.fm_lex.specs.Room.{SpotsFit}
use Rattle.fm_lex.proofs.lexer.skip_gap.Given as goal

abbrev pub invariant-loop-rest : goal.invariant-loop-rest
invariant-loop-rest l = record {
  same : walk between l.fn.from l.fn.text ≡ walk between l.spot l.rest;
  room : SpotsFit l.spot l.rest;
}

abbrev pub decreases-loop-rest : goal.decreases-loop-rest
decreases-loop-rest l = length l.rest
