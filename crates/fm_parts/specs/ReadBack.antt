-- What the file of the parts of a list is when it is read.
use Rattle.std.specs.Prelude.{ℕ, List, [], ◌∷◌, length, map}
use Rattle.std.specs.List.{flat_map}
use Rattle.fm_msg.specs.declared.msg.Msg.{Msg}
use Rattle.fm_msg.specs.declared.msg.TheConstants.{CHANNELS}
use Rattle.fm_read.specs.Reading.{Pair}
use Rattle.fm_read.specs.Decoded.{decoded}
use Rattle.fm_read.specs.Files.{Contents}
use Rattle.fm_read.specs.Written.{time_after}
use Rattle.fm_read.specs.WrittenFile.{track_part}
use Rattle.fm_parts.specs.Format1.{format1_header, all_tracks, on_channel, numbers}

-- what it is read as
unfoldable pub parts_contents : ℕ → List (ℕ × Msg) → ℕ → Contents
parts_contents division list end = record {
  head = format1_header (length (all_tracks list end)) division;
  format = 1;
  stated = length (all_tracks list end);
  division = division;
  parts = map track_part (all_tracks list end);
}

-- a track as its messages at their ticks, and the tick at which it ends
abbrev pub heard : List Pair → List (ℕ × Msg) × ℕ
heard es = (decoded 0 es, time_after 0 es)

-- the track of these messages, and none where there are none
abbrev pub heard_of : List (ℕ × Msg) → ℕ → List (List (ℕ × Msg) × ℕ)
heard_of [] end = []
heard_of (x ∷ list) end = (x ∷ list, end) ∷ []

-- that of the tempo, without a message, and then that of each channel that has one: all to the same end
abbrev pub all_heard : List (ℕ × Msg) → ℕ → List (List (ℕ × Msg) × ℕ)
all_heard list end = ([], end) ∷ flat_map (λ c. heard_of (on_channel c list) end) (numbers CHANNELS)
