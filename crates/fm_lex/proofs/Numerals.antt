-- The limit of a text in numbers.
use Rattle.std.proofs.Common.{◌≡◌, refl}
use Rattle.fm_lex.specs.declared.lexer.TheConstants.{MAX_TEXT}

most_bytes_of_a_text : MAX_TEXT ≡ 1048576
most_bytes_of_a_text = refl
