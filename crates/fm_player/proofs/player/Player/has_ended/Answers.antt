use Rattle.std.proofs.Common.{sym, ap, ◌∙◌}
use Rattle.std.specs.Option.{option_copied}
use Rattle.fm_player.proofs.StepLemmas.{op-lives}
use Rattle.fm_player.proofs.ReadLemmas.{ended-left, left-lives, none-ended, pending-sounds}
use Rattle.fm_player.proofs.player.Player.has_ended.Goals as goal

pub returns-in-Some-clause-not_yet : goal.returns-in-Some-clause-not_yet
returns-in-Some-clause-not_yet c = λ _.
    left-lives c.args.plan.now c.args.self.now c.requires
    (pending-sounds c.args.plan.now c.args.self.now _ c.requires (c.in-Some.ensures.some c.args.self.now.process)).0

pub returns-in-Some-next_op-clause-not_yet : goal.returns-in-Some-next_op-clause-not_yet
returns-in-Some-next_op-clause-not_yet c = λ _.
    left-lives c.args.plan.now c.args.self.now c.requires
    (op-lives c.args.plan.now c.args.self.now c.in-Some-next_op.field-0.now c.requires
    (c.time.ensures.none c.in-None.is c.args.self.now.process)
    (sym (ap option_copied c.in-Some-next_op.is) ∙ c.next_op.ensures.op))

pub returns-in-None-next_op-clause-yes : goal.returns-in-None-next_op-clause-yes
returns-in-None-next_op-clause-yes c = λ _.
    ended-left c.args.plan.now c.args.self.now c.requires
    (none-ended c.args.plan.now c.args.self.now c.requires (c.time.ensures.none c.in-None.is c.args.self.now.process)
    (sym (ap option_copied c.in-None-next_op.is) ∙ c.next_op.ensures.op))
