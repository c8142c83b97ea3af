use Rattle.fm_core.proofs.Gathered.{gather_fits}
use Rattle.fm_core.proofs.laws.gather_has_room.Goals as goal

pub returns : goal.returns
returns c = gather_fits
