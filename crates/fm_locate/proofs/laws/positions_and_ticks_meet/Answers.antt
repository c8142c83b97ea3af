use Rattle.std.proofs.Common.{arith}
use Rattle.fm_locate.proofs.LocatingLemmas.{IsNever-last}
use Rattle.fm_tick.specs.declared.tick.TheConstants.{MAX_TICK}
use Rattle.fm_locate.proofs.laws.positions_and_ticks_meet.Goals as goal

pub returns-clause-back : goal.returns-clause-back
returns-clause-back c = λ origin parts x y limited found. found.least x limited (omega arith)

pub returns-clause-found : goal.returns-clause-found
returns-clause-found c = λ origin parts x limited never. let before = never x limited in absurd (omega (arith, before))

pub returns-clause-forth : goal.returns-clause-forth
returns-clause-forth c = λ origin parts t x found. found.there

pub returns-clause-last : goal.returns-clause-last
returns-clause-last c = λ origin parts t. (IsNever-last origin parts t, λ never. never MAX_TICK (omega arith))

pub returns-clause-early : goal.returns-clause-early
returns-clause-early c = λ origin parts t x early found. let first = found.least 0 (omega arith) (omega arith) in omega (arith, first)
