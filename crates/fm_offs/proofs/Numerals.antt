-- The limit of what waits in numbers.
use Rattle.std.proofs.Common.{◌≡◌, refl}
use Rattle.fm_line.specs.Sounds.{most_waiting}
use Rattle.fm_offs.specs.declared.waiting.TheConstants.{MOST_WAITING}

as_many_wait : MOST_WAITING ≡ most_waiting
as_many_wait = refl

sixteen : MOST_WAITING ≡ 16
sixteen = refl
