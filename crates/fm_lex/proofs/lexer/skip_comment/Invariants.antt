use Rattle.std.proofs.Common.{◌≡◌, ◌≤◌, length}
use Rattle.fm_lex.specs.Tokens.{comment, walk}
use Rattle.fm_lex.specs.Room.{SpotsFit}
use Rattle.fm_lex.proofs.lexer.skip_comment.Given as goal

abbrev pub invariant-loop-rest : goal.invariant-loop-rest
invariant-loop-rest l = record {
  same : walk comment l.fn.from l.fn.text ≡ walk comment l.spot l.rest;
  room : SpotsFit l.spot l.rest;
  shorter : length l.rest ≤ length l.fn.text;
}

abbrev pub decreases-loop-rest : goal.decreases-loop-rest
decreases-loop-rest l = length l.rest
