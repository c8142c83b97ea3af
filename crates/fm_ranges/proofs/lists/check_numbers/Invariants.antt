use Rattle.std.proofs.Common.{◌≡◌, ◌-◌, drop}
use Rattle.fm_meaning.specs.Faults.{first_found}
use Rattle.fm_pattern.specs.declared.cursor.TheConstants.{MAX_ENTRIES}
use Rattle.fm_grammar.specs.declared.number.Number.{Number}
use Rattle.fm_meaning.specs.Ranges.{numbers_faults, each_faults, number_faults}
use Rattle.fm_ranges.proofs.lists.check_numbers.Given as goal

-- the first fault is that of the entries that are left
abbrev pub invariant-loop-i : goal.invariant-loop-i
invariant-loop-i l =
    first_found (numbers_faults l.least l.most l.numbers)
    ≡ first_found (each_faults (number_faults l.least l.most) Number.spot (MAX_ENTRIES - l.i) (drop l.i l.numbers))
