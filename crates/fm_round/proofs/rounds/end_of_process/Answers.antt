use Rattle.std.proofs.Common.{◌≡◌, Some, sym, ap, ◌∙◌, subst}
use Rattle.fm_line.specs.Line.{line}
use Rattle.fm_program.specs.Process.{plan_lines}
use Rattle.fm_strand.specs.Strand.{InCourse, clock_of}
use Rattle.fm_round.proofs.StrandFacts.{clock_ended}
use Rattle.fm_round.proofs.rounds.end_of_process.Goals as goal

pub returns-in-Some : goal.returns-in-Some
returns-in-Some c =
    let end = c.requires in
    let both : Some c.in-Some.strand ≡ Some end.strand = sym c.in-Some.is ∙ end.is in
    let same : c.in-Some.strand ≡ end.strand = cc in
    c.clock.ensures c.args.plan.now (subst (InCourse c.args.plan.now) (sym same) end.course)
    ∙ ap (clock_of c.args.plan.now) same
    ∙ clock_ended c.args.plan.now end.strand end.course end.over
    ∙ ap (λ j. (line (plan_lines c.args.plan.now) j).end) end.process

pub returns-in-None : goal.returns-in-None
returns-in-None c = let end = c.requires in let both = sym c.in-None.is ∙ end.is in cc
