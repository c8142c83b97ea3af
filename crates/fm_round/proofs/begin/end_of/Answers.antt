use Rattle.std.proofs.Common.{ap, ◌∙◌, subst}
use Rattle.fm_strand.specs.Course.{end_place}
use Rattle.fm_round.specs.Lanes.{IsRun}
use Rattle.fm_round.proofs.StrandFacts.{place_ended}
use Rattle.fm_round.proofs.begin.end_of.Goals as goal

pub returns-in-Some : goal.returns-in-Some
returns-in-Some c =
    let run = subst (IsRun c.args.plan.now c.args.process c.args.lane.now.ended c.args.lane.now.outbox.events) c.in-Some.is
    c.requires.lane in
    c.place.ensures c.args.plan.now run.course
    ∙ place_ended c.args.plan.now c.in-Some.strand run.course (run.at_end c.requires.ended)
    ∙ ap (end_place c.args.plan.now) run.process
