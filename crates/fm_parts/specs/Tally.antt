-- A table of all channels: the last tick of each, and how many bytes its messages have.
use Rattle.std.specs.Prelude.{◌≡◌, ◌≢◌, ℕ, ◌+◌, ◌-◌, ◌<◌, ◌≤◌, ◌==◌, List, [], ◌∷◌, length, ◌++◌, slice_index_or}
use Rattle.fm_msg.specs.declared.msg.Msg.{Msg}
use Rattle.fm_msg.specs.declared.msg.TheConstants.{CHANNELS}
use Rattle.fm_msg.specs.Message.{message_bytes}
use Rattle.fm_smf.specs.Track.{delta, end_bytes}
use Rattle.fm_smf.specs.declared.limits.TheConstants.{MAX_TRACK}
use Rattle.fm_read.specs.Reading.{Pair}
use Rattle.fm_read.specs.Decoded.{decoded}
use Rattle.fm_read.specs.Written.{time_after}
use Rattle.fm_read.specs.Files.{Contents, tracks}
use Rattle.fm_parts.specs.Format1.{channel_of, on_channel, track_behind, is_silent, format1}

-- what a contract sees of a table
pub record Tallied : Type 0 where
  pub lasts : List ℕ
  pub bytes : List ℕ

-- the last tick of a channel
abbrev pub last_of : Tallied → ℕ → ℕ
last_of t c = slice_index_or t.lasts c 0

-- how many bytes its messages have
abbrev pub bytes_of : Tallied → ℕ → ℕ
bytes_of t c = slice_index_or t.bytes c 0

-- how many bytes a message at a tick has on its channel
abbrev pub more_bytes : Tallied → ℕ → Msg → ℕ
more_bytes t tick m = length (delta (tick - last_of t (channel_of m)) ++ message_bytes m)

-- a message at a tick was entered: its channel has the tick and its bytes more, and the others are as they were
pub record Enters (old new : Tallied) (tick : ℕ) (m : Msg) : Type 0 where
  pub last : last_of new (channel_of m) ≡ tick
  pub bytes : bytes_of new (channel_of m) ≡ bytes_of old (channel_of m) + more_bytes old tick m
  pub same_last : (c : ℕ) → c ≢ channel_of m → last_of new c ≡ last_of old c
  pub same_bytes : (c : ℕ) → c ≢ channel_of m → bytes_of new c ≡ bytes_of old c

-- the first of several tracks
abbrev pub first_of : List (List Pair) → List Pair
first_of [] = []
first_of (track ∷ more) = track

-- the entries of a file's first track
abbrev pub first_track : Contents → List Pair
first_track c = first_of (tracks c.parts)

-- the file of format 1 of a file's first track
abbrev pub first_split : Contents → List ℕ
first_split c = format1 c.division (decoded 0 (first_track c)) (time_after 0 (first_track c))

-- behind all messages, each channel's bytes and its End of Track are its track, and a channel without bytes is silent
pub record IsTally (t : Tallied) (list : List (ℕ × Msg)) (end : ℕ) : Type 0 where
  pub whole : (c : ℕ) → c < CHANNELS →
      bytes_of t c + length (end_bytes (last_of t c) end) ≡ length (track_behind 0 (on_channel c list) end)
  pub silent : (c : ℕ) → c < CHANNELS → (bytes_of t c == 0) ≡ is_silent (on_channel c list)
  pub past : (c : ℕ) → c < CHANNELS → last_of t c ≤ end
  pub small : (c : ℕ) → c < CHANNELS → bytes_of t c + length (end_bytes (last_of t c) end) ≤ MAX_TRACK
