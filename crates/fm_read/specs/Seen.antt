-- What the code shows of a reading, where that is less than the reading itself.
use Rattle.std.specs.Prelude.{ℕ, List, Bool, Ok, Err}
use Rattle.fm_read.specs.Reading.{Read}
use Rattle.fm_read.specs.Files.{Part, is_track}

-- whether a chunk is a track, and what follows it
abbrev pub track_found : Read (Part × List ℕ) → Read (Bool × List ℕ)
track_found (Ok x) = Ok (is_track x.0, x.1)
track_found (Err s) = Err s

-- that there are chunks and one is a track, or the fault
abbrev pub present : Read (List Part) → Read (Unit {0})
present (Ok ps) = Ok tt
present (Err s) = Err s
