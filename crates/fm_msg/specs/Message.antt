-- The channel messages of MIDI 1.0 as bytes.
use Rattle.std.specs.Prelude.{ℕ, ◌+◌, ◌/◌, ◌%◌, List, [], ◌∷◌, Bool, ◌&&◌, nat_lt}
use Rattle.fm_msg.specs.declared.msg.Msg.{Msg}
use Rattle.fm_msg.specs.declared.msg.Msg.TheVariants.{On, Off, Control, Program, Bend}
use Rattle.fm_msg.specs.declared.msg.TheConstants.{CHANNELS, DATA_VALUES, BEND_VALUES}

-- a channel below 16, data bytes below 128, a bend of two times seven bits
abbrev pub is_in_range : Msg → Bool
is_in_range (On channel key velocity) =
    nat_lt channel CHANNELS && nat_lt key DATA_VALUES && nat_lt velocity DATA_VALUES
is_in_range (Off channel key) = nat_lt channel CHANNELS && nat_lt key DATA_VALUES
is_in_range (Control channel controller value) =
    nat_lt channel CHANNELS && nat_lt controller DATA_VALUES && nat_lt value DATA_VALUES
is_in_range (Program channel program) = nat_lt channel CHANNELS && nat_lt program DATA_VALUES
is_in_range (Bend channel bend) = nat_lt channel CHANNELS && nat_lt bend BEND_VALUES

-- a status byte with the channel in its low half, then the data bytes; a bend's low seven bits come first
abbrev pub message_bytes : Msg → List ℕ
message_bytes (On channel key velocity) = (144 + channel) ∷ key ∷ velocity ∷ []
message_bytes (Off channel key) = (128 + channel) ∷ key ∷ 64 ∷ []
message_bytes (Control channel controller value) = (176 + channel) ∷ controller ∷ value ∷ []
message_bytes (Program channel program) = (192 + channel) ∷ program ∷ []
message_bytes (Bend channel bend) = (224 + channel) ∷ (bend % 128) ∷ (bend / 128) ∷ []
