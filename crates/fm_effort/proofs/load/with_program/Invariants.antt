use Rattle.fm_program.specs.Parts.{program_parts}
use Rattle.fm_effort.proofs.FoldLemmas.{Walked}
use Rattle.fm_effort.proofs.load.with_program.Given as goal

-- the operations so far are in the load
abbrev pub invariant-loop-at : goal.invariant-loop-at
invariant-loop-at l = Walked l.fn.load (program_parts l.program) l.at l.whole l.enclosing
