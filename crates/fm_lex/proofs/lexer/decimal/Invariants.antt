use Rattle.std.proofs.Common.{◌≡◌, take}
use Rattle.fm_lex.specs.Bytes.{decimal}
use Rattle.fm_lex.proofs.lexer.decimal.Given as goal

abbrev pub invariant-loop-byte : goal.invariant-loop-byte
invariant-loop-byte l = l.value ≡ decimal (take l.byte-index l.digits)
