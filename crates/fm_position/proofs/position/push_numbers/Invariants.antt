use Rattle.std.proofs.Common.{◌≡◌, ◌+◌, ◌*◌, ◌≤◌, ◌++◌, drop}
use Rattle.arrayvec.specs.ArrayString.{array_string_len}
use Rattle.fm_position.specs.PositionLine.{numbers_text}
use Rattle.fm_position.proofs.position.push_numbers.Given as goal

abbrev pub invariant-loop-number : goal.invariant-loop-number
invariant-loop-number l = record {
  text : l.line.bytes ++ numbers_text (drop l.number-index l.numbers) ≡ l.initial.line.bytes ++ numbers_text l.numbers;
  len : array_string_len l.line ≤ array_string_len l.initial.line + 21 * l.number-index;
}
