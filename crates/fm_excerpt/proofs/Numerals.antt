-- How many slots, keys and events an excerpt has, in numbers.
use Rattle.std.proofs.Common.{◌≡◌, ◌^◌, refl}
use Rattle.fm_excerpt.specs.declared.counts.TheConstants.{ALL_KEYS}
use Rattle.fm_excerpt.specs.declared.output.TheConstants.{MAX_EXCERPT_EVENTS}
use Rattle.fm_excerpt.specs.declared.state.TheConstants.{CHANNEL_SLOTS, SLOTS}

-- 16 channels of 128 keys
all_keys : ALL_KEYS ≡ 2048
all_keys = refl

-- a program, 128 controllers and a bend
slots_of_a_channel : CHANNEL_SLOTS ≡ 130
slots_of_a_channel = refl

-- of 16 channels
all_slots : SLOTS ≡ 2080
all_slots = refl

most_events : MAX_EXCERPT_EVENTS ≡ 2 ^ 29
most_events = refl
