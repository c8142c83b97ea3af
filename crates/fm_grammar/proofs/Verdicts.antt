-- The fault of a text of one line, as numbers.
use Rattle.std.proofs.Common.{ℕ, List, Option, Some, None}
use Rattle.fm_lex.specs.declared.token.LexFault.{LexFault}
use Rattle.fm_lex.specs.declared.token.LexFault.TheVariants.{BadByte, BadNumber}
use Rattle.fm_lex.specs.Tokens.{tokens}
use Rattle.fm_grammar.specs.Reads.{Fault, lexical, expected, too_nested}
use Rattle.fm_grammar.specs.Table.{first_fault}

-- the number and the column of a fault, 0 where there is none
abbrev pub lexical_row : LexFault → ℕ × ℕ
lexical_row (BadByte s) = (1, s.column)
lexical_row (BadNumber s) = (2, s.column)

-- of any fault
abbrev pub fault_row : Option Fault → ℕ × ℕ
fault_row None = (0, 0)
fault_row (Some (lexical f)) = lexical_row f
fault_row (Some (expected s)) = (3, s.column)
fault_row (Some (too_nested s)) = (4, s.column)

-- the fault of a text of one line
abbrev pub verdict : List ℕ → ℕ × ℕ
verdict text = fault_row (first_fault (tokens text))
