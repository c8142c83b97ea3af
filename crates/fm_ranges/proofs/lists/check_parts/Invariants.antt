use Rattle.std.proofs.Common.{◌≡◌, ◌-◌, drop}
use Rattle.fm_meaning.specs.Faults.{first_found}
use Rattle.fm_warp.specs.declared.warp.TheConstants.{MAX_PARTS}
use Rattle.fm_meaning.specs.Ranges.{each_faults, part_faults, part_length, length_spot}
use Rattle.fm_ranges.proofs.lists.check_parts.Given as goal

-- the first fault is that of the parts that are left
abbrev pub invariant-loop-i : goal.invariant-loop-i
invariant-loop-i l =
    first_found (each_faults (part_faults l.whole) (λ p. length_spot (part_length p)) MAX_PARTS l.parts)
    ≡ first_found (each_faults (part_faults l.whole) (λ p. length_spot (part_length p)) (MAX_PARTS - l.i) (drop l.i l.parts))
