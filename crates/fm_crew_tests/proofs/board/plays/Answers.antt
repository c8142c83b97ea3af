use Rattle.std.proofs.Common.{refl, subst}
use Rattle.fm_program.specs.Parts.{PlanParts}
use Rattle.fm_strand.specs.Strand.{MakesQuantum}
use Rattle.fm_board.proofs.Advancing.{makes}
use Rattle.fm_crew_tests.proofs.board.plays.Goals as goal

pub give_back-requires-clause-made : goal.give_back-requires-clause-made
give_back-requires-clause-made g c =
    makes c.args.board.now.about c.args.seat.now.mind.view c.args.limit c.args.berth
    (record { process = c.args.berth.process; strand = c.quantum-answer.new.self; outbox = c.quantum-answer.new.out })
    c.quantum-answer.result c.requires.may refl
    (subst (λ (p : PlanParts). MakesQuantum p c.args.limit c.args.berth.strand c.args.berth.outbox c.quantum-answer.result
    c.quantum-answer.new.self c.quantum-answer.new.out) c.plan.ensures c.quantum-answer.ensures)
