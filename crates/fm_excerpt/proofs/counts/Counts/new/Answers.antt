use Rattle.std.proofs.Common.{arith}
use Rattle.fm_excerpt.specs.declared.counts.TheConstants.{ALL_KEYS}
use Rattle.fm_excerpt.proofs.CountLemmas.{sounds_none, ends_none}
use Rattle.fm_excerpt.proofs.counts.Counts.new.Goals as goal

pub returns-clause-none : goal.returns-clause-none
returns-clause-none c = sounds_none

pub returns-clause-few : goal.returns-clause-few
returns-clause-few c = ends_none ALL_KEYS (omega arith)
