-- The limits and places of a file in numbers.
use Rattle.std.proofs.Common.{◌≡◌, ◌-◌, ◌^◌, refl}
use Rattle.fm_smf.specs.declared.limits.TheConstants.{BEFORE_TRACK, LENGTH_PLACE, MAX_QUANTITY, MAX_TIME, MAX_TRACK, START_LENGTH}

greatest_quantity : MAX_QUANTITY ≡ 2 ^ 28 - 1
greatest_quantity = refl

last_tick : MAX_TIME ≡ 2 ^ 40
last_tick = refl

longest_track : MAX_TRACK ≡ 2 ^ 32 - 1
longest_track = refl

place_of_the_length : LENGTH_PLACE ≡ 18
place_of_the_length = refl

bytes_before_the_track : BEFORE_TRACK ≡ 22
bytes_before_the_track = refl

bytes_before_the_first_event : START_LENGTH ≡ 29
bytes_before_the_first_event = refl
