use Rattle.std.proofs.Common.{◌≡◌, ◌-◌, drop, map}
use Rattle.fm_meaning.specs.Faults.{first_found}
use Rattle.fm_grammar.specs.View.{pitch_view}
use Rattle.fm_meaning.specs.Ranges.{each_faults, pitches_faults, pitch_faults, pitch_spot}
use Rattle.fm_ranges.specs.declared.lists.TheConstants.{MAX_PITCHES}
use Rattle.fm_ranges.proofs.lists.check_pitches.Given as goal

-- the first fault is that of the pitches that are left
abbrev pub invariant-loop-i : goal.invariant-loop-i
invariant-loop-i l =
    first_found (pitches_faults (map pitch_view l.pitches))
    ≡ first_found (each_faults pitch_faults pitch_spot (MAX_PITCHES - l.i) (map pitch_view (drop l.i l.pitches)))
