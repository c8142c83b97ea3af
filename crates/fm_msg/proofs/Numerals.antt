-- The limits of messages, and the division in numbers.
use Rattle.std.proofs.Common.{◌≡◌, refl}
use Rattle.fm_msg.specs.declared.msg.TheConstants.{BEND_VALUES, CHANNELS, DATA_VALUES}
use Rattle.fm_msg.specs.declared.profile.TheConstants.{DIVISION}
use Rattle.fm_msg.specs.declared.running.TheConstants.{LEAST_DIVISION, MOST_DIVISION}

ticks_of_a_quarter_note : DIVISION ≡ 480
ticks_of_a_quarter_note = refl

least_ticks_of_a_quarter_note : LEAST_DIVISION ≡ 24
least_ticks_of_a_quarter_note = refl

most_ticks_of_a_quarter_note : MOST_DIVISION ≡ 960
most_ticks_of_a_quarter_note = refl

channels : CHANNELS ≡ 16
channels = refl

values_of_a_data_byte : DATA_VALUES ≡ 128
values_of_a_data_byte = refl

values_of_a_bend : BEND_VALUES ≡ 16384
values_of_a_bend = refl
