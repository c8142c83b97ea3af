-- The channel message of an entry, and those of a track with their times.
use Rattle.std.specs.Prelude.{ℕ, ◌+◌, ◌*◌, ◌/◌, ◌%◌, nat_lt, ◌==◌, if◌then◌else◌, List, [], ◌∷◌, Option, Some, None}
use Rattle.fm_msg.specs.declared.msg.Msg.{Msg}
use Rattle.fm_msg.specs.declared.msg.Msg.TheVariants.{On, Off, Control, Program, Bend}
use Rattle.fm_msg.specs.Message.{is_in_range}
use Rattle.fm_read.specs.Reading.{Pair}

-- a message of one data byte, by the upper half of its status and its channel
abbrev pub of_one : ℕ → ℕ → ℕ → Option Msg
of_one kind channel a = if kind == 12 then Some (Program channel a) else None

-- a message of two data bytes
abbrev pub of_two : ℕ → ℕ → ℕ → ℕ → Option Msg
of_two kind channel a b =
    if kind == 8 then Some (Off channel a)
    else if kind == 9 then Some (On channel a b)
    else if kind == 11 then Some (Control channel a b)
    else if kind == 14 then Some (Bend channel (a + 128 * b))
    else None

-- a message of these data bytes
abbrev pub of_data : ℕ → List ℕ → Option Msg
of_data status [] = None
of_data status (a ∷ []) = of_one (status / 16) (status % 16) a
of_data status (a ∷ b ∷ []) = of_two (status / 16) (status % 16) a b
of_data status (a ∷ b ∷ d ∷ more) = None

-- the data bytes of an event, behind its status byte where it has one
abbrev pub data_bytes : List ℕ → List ℕ
data_bytes [] = []
data_bytes (byte ∷ more) = if nat_lt byte 128 then byte ∷ more else more

-- a message, where it is in range
abbrev pub in_range : Option Msg → Option Msg
in_range None = None
in_range (Some m) = if is_in_range m then Some m else None

-- the message of an event, where it is one of the five
unfoldable pub message_from : ℕ → List ℕ → Option Msg
message_from status bytes = in_range (of_data status (data_bytes bytes))

-- a message at a tick in front of others, where there is one
abbrev pub and_message : ℕ → Option Msg → List (ℕ × Msg) → List (ℕ × Msg)
and_message tick None more = more
and_message tick (Some m) more = (tick, m) ∷ more

-- the messages of entries with their ticks, behind a tick
abbrev pub decoded : ℕ → List Pair → List (ℕ × Msg)
decoded now [] = []
decoded now (e ∷ es) = and_message (now + e.delta) (message_from e.status e.bytes) (decoded (now + e.delta) es)
