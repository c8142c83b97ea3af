use Rattle.std.proofs.Common.{refl}
use Rattle.fm_offs.proofs.RestLemmas.{rest-before, rest-sound, rest-due, rest-joins, rest-end, rest-ended}
use Rattle.fm_offs.proofs.laws.sounds_come_out_one_at_a_time.Goals as goal

pub returns-clause-before : goal.returns-clause-before
returns-clause-before c = λ t e s xs ws left x begins at lets. rest-before t _ e s xs begins at refl ws left x lets

pub returns-clause-sound : goal.returns-clause-sound
returns-clause-sound c = λ t e s xs ws begins at room. rest-sound t _ e s xs begins at refl ws room

pub returns-clause-due : goal.returns-clause-due
returns-clause-due c = λ t e xs ws left x few begins lets. rest-due t e ws left xs x few begins lets

pub returns-clause-joins : goal.returns-clause-joins
returns-clause-joins c = λ e s xs ws off. rest-joins e ws s xs off

pub returns-clause-end : goal.returns-clause-end
returns-clause-end c = rest-end

pub returns-clause-ended : goal.returns-clause-ended
returns-clause-ended c = rest-ended
