-- An excerpt of messages at their ticks: the state of the channels, the window, and the ends of what still sounds.
use Rattle.std.specs.Prelude.{ℕ, zero, suc, ◌-◌, min, max, Bool, true, false, ◌&&◌, nat_lt, nat_le, ◌==◌, if◌then◌else◌}
use Rattle.std.specs.Prelude.{count_by, List, [], ◌∷◌, ◌++◌, map, replicate, Option, Some, None}
use Rattle.std.specs.List.{flat_map}
use Rattle.std.specs.Option.{option_map, option_to_list}
use Rattle.fm_msg.specs.declared.msg.Msg.{Msg}
use Rattle.fm_msg.specs.declared.msg.Msg.TheVariants.{On, Off, Control, Program, Bend}
use Rattle.fm_msg.specs.declared.msg.TheConstants.{CHANNELS, DATA_VALUES}
use Rattle.fm_msg.specs.Event.{TimedMessage}
use Rattle.fm_read.specs.Written.{as_message}
use Rattle.fm_excerpt.specs.Last.{last_value, program_of, bend_of, control_of}

-- the numbers below n, rising
unfoldable pub below : ℕ → List ℕ
below zero = []
below (suc n) = below n ++ n ∷ []

-- ---- the state at the beginning

-- the messages before a tick
abbrev pub before : ℕ → List (ℕ × Msg) → List Msg
before begin [] = []
before begin (x ∷ xs) = (if nat_lt x.0 begin then x.1 ∷ [] else []) ++ before begin xs

-- what a channel begins with, where it was set: its program, its controllers, its bend
unfoldable pub channel_state : ℕ → List Msg → List Msg
channel_state c ms =
    option_to_list (option_map (Program c) (last_value (program_of c) ms))
    ++ flat_map (λ k. option_to_list (option_map (Control c k) (last_value (control_of c k) ms))) (below DATA_VALUES)
    ++ option_to_list (option_map (Bend c) (last_value (bend_of c) ms))

-- what all channels begin with
unfoldable pub state : List Msg → List Msg
state ms = flat_map (λ c. channel_state c ms) (below CHANNELS)

-- ---- the window

-- whether a message is a note-on of this channel and key
abbrev pub is_on : ℕ → ℕ → Msg → Bool
is_on c k (On channel key velocity) = (channel == c) && (key == k)
is_on c k (Off channel key) = false
is_on c k (Control channel controller value) = false
is_on c k (Program channel program) = false
is_on c k (Bend channel bend) = false

-- whether it is a note-off
abbrev pub is_off : ℕ → ℕ → Msg → Bool
is_off c k (On channel key velocity) = false
is_off c k (Off channel key) = (channel == c) && (key == k)
is_off c k (Control channel controller value) = false
is_off c k (Program channel program) = false
is_off c k (Bend channel bend) = false

-- how many notes of a channel and key still sound behind these messages: note-ons less note-offs
abbrev pub sounding : ℕ → ℕ → List Msg → ℕ
sounding c k ms = count_by (is_on c k) ms - count_by (is_off c k) ms

-- whether the window keeps a message behind those that it has kept: a note-off only where its note sounds
abbrev pub keeps : List Msg → Msg → Bool
keeps kept (On channel key velocity) = true
keeps kept (Off channel key) = nat_lt 0 (sounding channel key kept)
keeps kept (Control channel controller value) = true
keeps kept (Program channel program) = true
keeps kept (Bend channel bend) = true

-- whether a tick is in the window
abbrev pub is_inside : ℕ → Option ℕ → ℕ → Bool
is_inside begin None t = nat_le begin t
is_inside begin (Some until) t = nat_le begin t && nat_lt t (max begin until)

-- what the window keeps of messages behind those that it has kept, with the ticks from its start on
unfoldable pub window : ℕ → Option ℕ → ℕ → List Msg → List (ℕ × Msg) → List (ℕ × Msg)
window begin until start kept [] = []
window begin until start kept (x ∷ xs) =
    if is_inside begin until x.0 && keeps kept x.1
    then (x.0 - start, x.1) ∷ window begin until start (kept ++ x.1 ∷ []) xs
    else window begin until start kept xs

-- ---- the end

-- the note-offs of what still sounds, by channel and key
unfoldable pub closing : List Msg → List Msg
closing kept =
    flat_map (λ c. flat_map (λ k. replicate (sounding c k kept) (Off c k)) (below DATA_VALUES)) (below CHANNELS)

-- where the window starts in the file
abbrev pub start_of : ℕ → ℕ → ℕ
start_of begin end = min begin end

-- where it stops
abbrev pub stop_of : ℕ → Option ℕ → ℕ → ℕ
stop_of begin None end = end
stop_of begin (Some until) end = min (max begin until) end

-- the end of the excerpt
abbrev pub excerpt_end : ℕ → Option ℕ → ℕ → ℕ
excerpt_end begin until end = stop_of begin until end - start_of begin end

-- the message at a tick
abbrev pub message_at : ℕ × Msg → Msg
message_at x = x.1

-- messages at one tick
abbrev pub at_tick : ℕ → List Msg → List (ℕ × Msg)
at_tick t ms = map (λ m. (t, m)) ms

-- the window of a whole list
abbrev pub window_of : ℕ → Option ℕ → List (ℕ × Msg) → ℕ → List (ℕ × Msg)
window_of begin until list end = window begin until (start_of begin end) [] list

-- the excerpt
unfoldable pub excerpt : ℕ → Option ℕ → List (ℕ × Msg) → ℕ → List (ℕ × Msg)
excerpt begin until list end =
    at_tick 0 (state (before begin list)) ++ window_of begin until list end
    ++ at_tick (excerpt_end begin until end) (closing (map message_at (window_of begin until list end)))

-- a message at a tick as an event
abbrev pub as_event : ℕ × Msg → TimedMessage
as_event x = record { time = x.0; process = 0; index = 0; msg = x.1 }

-- the excerpt of a file's events, as events
abbrev pub excerpt_events : ℕ → Option ℕ → List TimedMessage → ℕ → List TimedMessage
excerpt_events begin until events end = map as_event (excerpt begin until (map as_message events) end)
