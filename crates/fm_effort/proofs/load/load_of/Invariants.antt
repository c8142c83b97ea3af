use Rattle.fm_effort.proofs.FoldLemmas.{Summed}
use Rattle.fm_effort.proofs.load.load_of.Given as goal

-- the programs so far are in the load
abbrev pub invariant-loop-process : goal.invariant-loop-process
invariant-loop-process l = Summed l.plan.programs l.process l.operations l.load
