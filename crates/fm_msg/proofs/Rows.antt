-- Bytes and ranges of single messages, and the order of five events.
use Rattle.std.proofs.Common.{◌≡◌, [], ◌∷◌, map, true, false, refl}
use Rattle.std.specs.declared.cmp.Ordering.TheVariants.{Less, Equal, Greater}
use Rattle.fm_msg.specs.declared.msg.Msg.TheVariants.{On, Off, Control, Program, Bend}
use Rattle.fm_msg.specs.Message.{is_in_range, message_bytes}
use Rattle.fm_msg.specs.Event.{TimedMessage, event_cmp}

note_on : message_bytes (On 0 60 64) ≡ 0x90 ∷ 0x3C ∷ 0x40 ∷ []
note_on = refl

note_off : message_bytes (Off 15 60) ≡ 0x8F ∷ 0x3C ∷ 0x40 ∷ []
note_off = refl

control_change : message_bytes (Control 0 7 100) ≡ 0xB0 ∷ 0x07 ∷ 0x64 ∷ []
control_change = refl

program_change : message_bytes (Program 0 5) ≡ 0xC0 ∷ 0x05 ∷ []
program_change = refl

lowest_bend : message_bytes (Bend 0 0) ≡ 0xE0 ∷ 0x00 ∷ 0x00 ∷ []
lowest_bend = refl

no_bend : message_bytes (Bend 0 8192) ≡ 0xE0 ∷ 0x00 ∷ 0x40 ∷ []
no_bend = refl

highest_bend : message_bytes (Bend 15 16383) ≡ 0xEF ∷ 0x7F ∷ 0x7F ∷ []
highest_bend = refl

last_channel : message_bytes (Control 15 7 100) ∷ message_bytes (Program 15 5) ∷ []
    ≡ (0xBF ∷ 0x07 ∷ 0x64 ∷ []) ∷ (0xCF ∷ 0x05 ∷ []) ∷ []
last_channel = refl

greatest_in_range : is_in_range (Bend 15 16383) ≡ true
greatest_in_range = refl

bend_above : is_in_range (Bend 15 16384) ≡ false
bend_above = refl

key_above : is_in_range (On 0 128 64) ≡ false
key_above = refl

channel_above : is_in_range (Program 16 0) ≡ false
channel_above = refl

-- the greatest numbers of each kind
greatest_of_each : map is_in_range (On 15 127 127 ∷ Off 15 127 ∷ Control 15 127 127 ∷ Program 15 127 ∷ [])
    ≡ true ∷ true ∷ true ∷ true ∷ []
greatest_of_each = refl

-- a channel too great
channels_above : map is_in_range (On 16 0 0 ∷ Off 16 0 ∷ Control 16 0 0 ∷ Bend 16 0 ∷ [])
    ≡ false ∷ false ∷ false ∷ false ∷ []
channels_above = refl

-- a data byte too great
data_above :
    map is_in_range (On 0 0 128 ∷ Off 0 128 ∷ Control 0 128 0 ∷ Control 0 0 128 ∷ Program 0 128 ∷ [])
    ≡ false ∷ false ∷ false ∷ false ∷ false ∷ []
data_above = refl

abbrev earlier : TimedMessage
earlier = record { time = 479; process = 2; index = 9; msg = Bend 15 16383 }

abbrev on_first : TimedMessage
on_first = record { time = 480; process = 0; index = 8; msg = On 15 127 127 }

abbrev on_second : TimedMessage
on_second = record { time = 480; process = 1; index = 7; msg = On 0 60 64 }

abbrev off_second : TimedMessage
off_second = record { time = 480; process = 1; index = 7; msg = Off 0 0 }

abbrev on_third : TimedMessage
on_third = record { time = 480; process = 1; index = 8; msg = On 0 0 0 }

time_is_first : event_cmp earlier on_first ≡ Less
time_is_first = refl

process_is_second : event_cmp on_first on_second ≡ Less
process_is_second = refl

index_is_third : event_cmp on_third off_second ≡ Greater
index_is_third = refl

message_is_last : event_cmp on_second off_second ≡ Less
message_is_last = refl

same_is_equal : event_cmp on_second on_second ≡ Equal
same_is_equal = refl
