-- The limits of lists, articulations and onsets in numbers.
use Rattle.std.proofs.Common.{◌≡◌, ◌^◌, refl}
use Rattle.fm_pattern.specs.declared.cursor.TheConstants.{MAX_ENTRIES}
use Rattle.fm_pattern.specs.declared.note_end.TheConstants.{MAX_GATE, MAX_ONSET}

most_entries : MAX_ENTRIES ≡ 256
most_entries = refl

most_percent : MAX_GATE ≡ 400
most_percent = refl

last_onset : MAX_ONSET ≡ 2 ^ 40
last_onset = refl
