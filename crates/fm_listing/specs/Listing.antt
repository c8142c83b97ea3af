-- The listing of a file: a line for its header, and one for each entry of each track.
use Rattle.std.specs.Prelude.{ℕ, ◌+◌, ◌/◌, ◌%◌, nat_lt, if◌then◌else◌, List, [], ◌∷◌, ◌++◌, length, codes}
use Rattle.std.specs.List.{flat_map}
use Rattle.std.specs.Fmt.{decimal}
use Rattle.fm_read.specs.Reading.{Pair}
use Rattle.fm_read.specs.Files.{Contents, tracks}
use Rattle.fm_read.specs.Written.{whole_of}

-- a hexadecimal digit: 0 to 9, then A to F
abbrev pub upper_digit : ℕ → ℕ
upper_digit n = if nat_lt n 10 then 48 + n else 55 + n

-- a blank, and a byte as two digits
abbrev pub byte_text : ℕ → List ℕ
byte_text byte = 32 ∷ upper_digit (byte / 16) ∷ upper_digit (byte % 16) ∷ []

-- bytes, one after another
abbrev pub bytes_text : List ℕ → List ℕ
bytes_text bytes = flat_map byte_text bytes

-- the line of an event: its track, its tick, and its bytes
unfoldable pub line : ℕ → ℕ → List ℕ → List ℕ
line track tick bytes = decimal track ++ (32 ∷ decimal tick ++ (bytes_text bytes ++ 10 ∷ []))

-- the lines of entries of a track, behind a tick: the tick of each is the sum of the delta times, and its event stands
-- with its status byte
abbrev pub track_lines : ℕ → ℕ → List Pair → List ℕ
track_lines track now [] = []
track_lines track now (e ∷ es) =
    line track (now + e.delta) (whole_of e.status e.bytes) ++ track_lines track (now + e.delta) es

-- the lines of tracks, of which the first has this number
abbrev pub lines_from : ℕ → List (List Pair) → List ℕ
lines_from number [] = []
lines_from number (es ∷ more) = track_lines number 0 es ++ lines_from (number + 1) more

-- the first line: the format, how many tracks there are, and the division
unfoldable pub first_line : ℕ → ℕ → ℕ → List ℕ
first_line format count division =
    codes "format " ++ (decimal format ++ (codes " tracks " ++ (decimal count
    ++ (codes " division " ++ (decimal division ++ 10 ∷ [])))))

-- the whole listing; tracks are counted from 0 in the order of the file
abbrev pub listing : Contents → List ℕ
listing c = first_line c.format (length (tracks c.parts)) c.division ++ lines_from 0 (tracks c.parts)
