use Rattle.fm_nest.proofs.FarLemmas.{far-in-time}
use Rattle.fm_nest.proofs.laws.ends_in_time_are_note_offs.Goals as goal

pub returns : goal.returns
returns c = far-in-time
