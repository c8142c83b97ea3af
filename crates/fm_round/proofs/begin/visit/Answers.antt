use Rattle.std.proofs.Common.{sym, ap, ◌∙◌}
use Rattle.fm_round.specs.Lanes.{no_lane}
use Rattle.fm_round.specs.declared.lane.Lane.{Lane}
use Rattle.fm_round.proofs.Running.{any_default}
use Rattle.fm_round.proofs.Following.{await_live}
use Rattle.fm_round.proofs.Watched.{behind_nothing}
use Rattle.fm_round.proofs.begin.visit.Goals as goal

pub returns-then-not-lanes-before-clause-starts : goal.returns-then-not-lanes-before-clause-starts
returns-then-not-lanes-before-clause-starts c =
    behind_nothing c.args.plan.now c.args.before c.args.lanes.now c.requires.watched.processes.lanes

pub returns-then-not-lanes-before-clause-awaited : goal.returns-then-not-lanes-before-clause-awaited
returns-then-not-lanes-before-clause-awaited c =
    await_live c.args.plan.now c.args.watch.now c.args.before c.args.lanes.now c.requires.awaited
    (sym (ap (λ (s : Lane). s.ended)
    (any_default c.args.lanes.now c.args.before c.index-lanes-before.result no_lane c.requires.before)) ∙ c.if-not-lanes-before.true)
