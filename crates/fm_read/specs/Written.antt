-- What a written track is when it is read: its entries, and the messages and the end that they give.
use Rattle.std.specs.Prelude.{◌≡◌, ℕ, zero, suc, ◌+◌, ◌-◌, nat_lt, if◌then◌else◌, List, [], ◌∷◌, ◌++◌, true}
use Rattle.fm_msg.specs.declared.msg.Msg.{Msg}
use Rattle.fm_msg.specs.declared.profile.Profile.{Profile}
use Rattle.fm_msg.specs.Event.{TimedMessage}
use Rattle.fm_msg.specs.Message.{message_bytes, is_in_range}
use Rattle.fm_smf.specs.VariableLength.{vlq}
use Rattle.fm_smf.specs.Track.{filler_count, remainder, last_time, TrackState, track_start, status_of, message_in, state_with}
use Rattle.fm_smf.specs.declared.limits.TheConstants.{MAX_QUANTITY}
use Rattle.fm_read.specs.Reading.{Pair}

-- the entry of a filler
abbrev pub filler_entry : Pair
filler_entry =
    record { delta = MAX_QUANTITY; status = 255; lead = 255 ∷ 255 ∷ 255 ∷ 127 ∷ []; bytes = 255 ∷ 1 ∷ 0 ∷ [] }

-- the entries of so many fillers
unfoldable pub filler_entries : ℕ → List Pair
filler_entries zero = []
filler_entries (suc k) = filler_entry ∷ filler_entries k

-- the entries of an event after so many ticks: its fillers, and its own
abbrev pub timed : ℕ → ℕ → List ℕ → List Pair
timed ticks status bytes =
    filler_entries (filler_count ticks)
    ++ record { delta = remainder ticks; status = status; lead = vlq (remainder ticks); bytes = bytes } ∷ []

-- the entries of events
abbrev pub event_entries : TrackState → List TimedMessage → List Pair
event_entries s [] = []
event_entries s (e ∷ es) =
    timed (e.time - s.last) (status_of e.msg) (message_in s (e.time - s.last) e.msg) ++ event_entries
    (state_with s e) es

-- the tempo's entry
abbrev pub tempo_entry : Pair
tempo_entry = record { delta = 0; status = 255; lead = 0 ∷ []; bytes = 255 ∷ 81 ∷ 3 ∷ 7 ∷ 161 ∷ 32 ∷ [] }

-- the entries of a whole track
abbrev pub track_entries : Profile → List TimedMessage → ℕ → List Pair
track_entries profile events end =
    tempo_entry ∷ event_entries (track_start profile) events ++ timed (end - last_time 0 events) 255 (255 ∷ 47 ∷ 0 ∷ [])

-- every message is in range
abbrev pub AreInRange : List TimedMessage → Type 0
AreInRange [] = Unit {0}
AreInRange (e ∷ es) = (is_in_range e.msg ≡ true) × AreInRange es

-- an event's bytes with its status byte
abbrev pub whole_of : ℕ → List ℕ → List ℕ
whole_of status [] = status ∷ []
whole_of status (byte ∷ more) = if nat_lt byte 128 then status ∷ byte ∷ more else byte ∷ more

-- the channel messages of entries with their times, behind a time
abbrev pub messages : ℕ → List Pair → List (ℕ × List ℕ)
messages now [] = []
messages now (e ∷ es) =
    if nat_lt e.status 240 then (now + e.delta, whole_of e.status e.bytes) ∷ messages (now + e.delta) es
    else messages (now + e.delta) es

-- the time behind entries
abbrev pub time_after : ℕ → List Pair → ℕ
time_after now [] = now
time_after now (e ∷ es) = time_after (now + e.delta) es

-- a message with its time, as its bytes
abbrev pub as_bytes : TimedMessage → ℕ × List ℕ
as_bytes e = (e.time, message_bytes e.msg)

-- a message with its time
abbrev pub as_message : TimedMessage → ℕ × Msg
as_message e = (e.time, e.msg)
