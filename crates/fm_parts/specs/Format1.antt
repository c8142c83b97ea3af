-- A file of format 1: the tempo in a track of its own, and a track for each channel that has an event.
use Rattle.std.specs.Prelude.{ℕ, zero, suc, ◌-◌, ◌/◌, ◌%◌, ◌==◌, Bool, true, false, List, [], ◌∷◌, ◌++◌, length}
use Rattle.std.specs.List.{filter, flat_map}
use Rattle.fm_msg.specs.declared.msg.Msg.{Msg}
use Rattle.fm_msg.specs.declared.msg.Msg.TheVariants.{On, Off, Control, Program, Bend}
use Rattle.fm_msg.specs.declared.msg.TheConstants.{CHANNELS}
use Rattle.fm_msg.specs.Message.{message_bytes}
use Rattle.fm_smf.specs.Track.{tempo, delta, end_bytes}
use Rattle.fm_read.specs.WrittenFile.{track_head}

-- a message's channel
abbrev pub channel_of : Msg → ℕ
channel_of (On channel key velocity) = channel
channel_of (Off channel key) = channel
channel_of (Control channel controller value) = channel
channel_of (Program channel program) = channel
channel_of (Bend channel bend) = channel

-- whether a message at a tick is of this channel
abbrev pub is_on_channel : ℕ → ℕ × Msg → Bool
is_on_channel c x = channel_of x.1 == c

-- the messages of one channel at their ticks, in their order
abbrev pub on_channel : ℕ → List (ℕ × Msg) → List (ℕ × Msg)
on_channel c list = filter (is_on_channel c) list

-- what stands of a track behind a tick: each message behind its delta time, with its status byte, and End of Track
abbrev pub track_behind : ℕ → List (ℕ × Msg) → ℕ → List ℕ
track_behind last [] end = end_bytes last end
track_behind last (x ∷ list) end = (delta (x.0 - last) ++ message_bytes x.1) ++ track_behind x.0 list end

-- the track of the tempo alone
abbrev pub tempo_track : ℕ → List ℕ
tempo_track end = tempo ++ end_bytes 0 end

-- whether there is no message
abbrev pub is_silent : List (ℕ × Msg) → Bool
is_silent [] = true
is_silent (x ∷ list) = false

-- the track of these messages, and none where there are none
abbrev pub track_of : List (ℕ × Msg) → ℕ → List (List ℕ)
track_of [] end = []
track_of (x ∷ list) end = track_behind 0 (x ∷ list) end ∷ []

-- the numbers below n, rising
unfoldable pub numbers : ℕ → List ℕ
numbers zero = []
numbers (suc n) = numbers n ++ n ∷ []

-- the tracks of the channels below n, in their order
unfoldable pub channel_tracks : ℕ → List (ℕ × Msg) → ℕ → List (List ℕ)
channel_tracks n list end = flat_map (λ c. track_of (on_channel c list) end) (numbers n)

-- a track's chunk
abbrev pub track_chunk : List ℕ → List ℕ
track_chunk body = track_head (length body) ++ body

-- `MThd`, length 6, format 1, the number of tracks and the division, each in two bytes, the most significant first
abbrev pub format1_header : ℕ → ℕ → List ℕ
format1_header tracks division =
    77 ∷ 84 ∷ 104 ∷ 100 ∷ 0 ∷ 0 ∷ 0 ∷ 6 ∷ 0 ∷ 1 ∷ (tracks / 256) ∷ (tracks % 256)
    ∷ (division / 256) ∷ (division % 256) ∷ []

-- all tracks, that of the tempo first
abbrev pub all_tracks : List (ℕ × Msg) → ℕ → List (List ℕ)
all_tracks list end = tempo_track end ∷ channel_tracks CHANNELS list end

-- the file of this division, these messages and this end
unfoldable pub format1 : ℕ → List (ℕ × Msg) → ℕ → List ℕ
format1 division list end =
    format1_header (length (all_tracks list end)) division ++ flat_map track_chunk (all_tracks list end)
