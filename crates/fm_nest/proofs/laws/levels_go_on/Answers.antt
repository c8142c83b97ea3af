use Rattle.fm_nest.proofs.ReadinessLemmas.{AskedUpTo-later, positions-innermost}
use Rattle.fm_nest.proofs.laws.levels_go_on.Goals as goal

pub returns-clause-ready : goal.returns-clause-ready
returns-clause-ready c = λ side warps levels xs x asked above. AskedUpTo-later side warps levels xs _ above asked

pub returns-clause-innermost : goal.returns-clause-innermost
returns-clause-innermost c = positions-innermost
