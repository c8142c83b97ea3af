use Rattle.fm_grammar.specs.View.{score_view}
use Rattle.fm_plan.proofs.planning.plan.Goals as goal

pub plan_outline-requires : goal.plan_outline-requires
plan_outline-requires c = (
  c.requires.accepted.0,
  score_view c.args.score.now,
  c.requires.accepted.1,
  c.in-Ok.ensures.outline,
  c.requires.bounds,
)

pub returns-in-Ok-clause-lines : goal.returns-in-Ok-clause-lines
returns-in-Ok-clause-lines c =
    c.plan_outline.ensures.lines c.requires.accepted.0 (score_view c.args.score.now) c.requires.accepted.1 c.in-Ok.ensures.outline

pub returns-in-Ok-clause-steps : goal.returns-in-Ok-clause-steps
returns-in-Ok-clause-steps c =
    c.plan_outline.ensures.steps c.requires.accepted.0 (score_view c.args.score.now) c.requires.accepted.1 c.in-Ok.ensures.outline
