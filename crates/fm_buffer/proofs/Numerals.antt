-- The limit of an event queue in numbers.
use Rattle.std.proofs.Common.{◌≡◌, refl}
use Rattle.fm_buffer.specs.declared.outbox.TheConstants.{MAX_ROOM}

most_room : MAX_ROOM ≡ 64
most_room = refl
