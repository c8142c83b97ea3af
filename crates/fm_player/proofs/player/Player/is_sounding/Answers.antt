use Rattle.std.proofs.Common.{sym, ap, ◌∙◌}
use Rattle.std.specs.Option.{option_copied}
use Rattle.fm_player.proofs.StepLemmas.{step-can}
use Rattle.fm_player.proofs.ReadLemmas.{none-ended, op-quiet, op-sounds, over-quiet, pending-sounds}
use Rattle.fm_player.proofs.player.Player.is_sounding.Goals as goal

pub returns-in-Some-clause-sounds : goal.returns-in-Some-clause-sounds
returns-in-Some-clause-sounds c = λ _.
    (pending-sounds c.args.plan.now c.args.self.now _ c.requires (c.in-Some.ensures.some c.args.self.now.process)).1

pub returns-in-Some-next_op-clause-sounds : goal.returns-in-Some-next_op-clause-sounds
returns-in-Some-next_op-clause-sounds c = λ sent.
    op-sounds c.args.plan.now c.args.self.now c.in-Some-next_op.op.now
    (step-can c.args.plan.now c.args.self.now c.in-Some-next_op.op.now c.requires (c.time.ensures.none c.in-None.is c.args.self.now.process)
    (sym (ap option_copied c.in-Some-next_op.is) ∙ c.next_op.ensures.op) c.in-Some-next_op.ensures.small)
    (sym c.sends.ensures ∙ sent)

pub returns-in-Some-next_op-clause-quiet : goal.returns-in-Some-next_op-clause-quiet
returns-in-Some-next_op-clause-quiet c = λ sent.
    op-quiet c.args.plan.now c.args.self.now c.in-Some-next_op.op.now
    (step-can c.args.plan.now c.args.self.now c.in-Some-next_op.op.now c.requires (c.time.ensures.none c.in-None.is c.args.self.now.process)
    (sym (ap option_copied c.in-Some-next_op.is) ∙ c.next_op.ensures.op) c.in-Some-next_op.ensures.small)
    (sym c.sends.ensures ∙ sent)

pub returns-in-None-next_op-clause-quiet : goal.returns-in-None-next_op-clause-quiet
returns-in-None-next_op-clause-quiet c = λ _.
    over-quiet c.args.plan.now c.args.self.now
    (none-ended c.args.plan.now c.args.self.now c.requires (c.time.ensures.none c.in-None.is c.args.self.now.process)
    (sym (ap option_copied c.in-None-next_op.is) ∙ c.next_op.ensures.op))
