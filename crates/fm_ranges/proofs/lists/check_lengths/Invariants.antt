use Rattle.std.proofs.Common.{◌≡◌, ◌-◌, drop}
use Rattle.fm_meaning.specs.Faults.{first_found}
use Rattle.fm_pattern.specs.declared.cursor.TheConstants.{MAX_ENTRIES}
use Rattle.fm_meaning.specs.Ranges.{each_faults, length_faults, length_spot}
use Rattle.fm_ranges.proofs.lists.check_lengths.Given as goal

-- the first fault is that of the entries that are left
abbrev pub invariant-loop-i : goal.invariant-loop-i
invariant-loop-i l =
    first_found (each_faults (length_faults l.whole) length_spot MAX_ENTRIES l.lengths)
    ≡ first_found (each_faults (length_faults l.whole) length_spot (MAX_ENTRIES - l.i) (drop l.i l.lengths))
