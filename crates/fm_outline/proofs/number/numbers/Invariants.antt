use Rattle.std.proofs.Common.{◌≡◌, take, map}
use Rattle.fm_grammar.specs.declared.number.Number.{Number}
use Rattle.fm_outline.proofs.number.numbers.Given as goal

-- the numbers so far
abbrev pub invariant-loop-number : goal.invariant-loop-number
invariant-loop-number l = l.entries.items ≡ map Number.value (take l.number-index l.list)
