use Rattle.std.proofs.Common.{sym, ap, ◌∙◌, subst, refl, arith, inl, inr}
use Rattle.std.specs.Option.{option_copied}
use Rattle.fm_player.specs.Ahead.{IsAtOn}
use Rattle.fm_player.proofs.AheadLemmas.{ahead-end, ahead-none, ahead-on, at-on, off-quiet, op-quietly}
use Rattle.fm_player.proofs.ReadLemmas.{ended-left, left-lives, none-ended, pending-sounds}
use Rattle.fm_player.proofs.StepLemmas.{op-lives, step-can}
use Rattle.fm_player.proofs.player.Player.pitches.Goals as goal

pub returns-then-left-gt0-clause-begins : goal.returns-then-left-gt0-clause-begins
returns-then-left-gt0-clause-begins c = inl
    (subst (IsAtOn c.args.plan.now c.args.self.now) (sym c.ons_left-left.ensures.value)
    (at-on c.args.plan.now c.args.self.now c.requires (omega (arith, c.if-left-gt0.true, c.ons_left-left.ensures.value))))

pub returns-in-Some-clause-begins : goal.returns-in-Some-clause-begins
returns-in-Some-clause-begins c = inr (inr (
  refl,
  left-lives c.args.plan.now c.args.self.now c.requires
      (pending-sounds c.args.plan.now c.args.self.now _ c.requires (c.in-Some.ensures.some c.args.self.now.process)).0,
  off-quiet c.args.plan.now c.args.self.now c.requires c.in-Some.ensures.left
      (omega (arith, c.if-left-gt0.false, c.ons_left-left.ensures.value)),
))

pub returns-in-Some-next_op-clause-begins : goal.returns-in-Some-next_op-clause-begins
returns-in-Some-next_op-clause-begins c =
    let here = sym (ap option_copied c.in-Some-next_op.is) ∙ c.next_op.ensures.op in
    let none = c.time.ensures.none c.in-None.is c.args.self.now.process in
    inr (inr (
      refl,
      left-lives c.args.plan.now c.args.self.now c.requires
          (op-lives c.args.plan.now c.args.self.now c.in-Some-next_op.field-0.now c.requires none here),
      op-quietly c.args.plan.now c.args.self.now c.in-Some-next_op.field-0.now
          (step-can c.args.plan.now c.args.self.now c.in-Some-next_op.field-0.now c.requires none here c.in-Some-next_op.ensures.small),
    ))

pub returns-in-None-next_op-clause-begins : goal.returns-in-None-next_op-clause-begins
returns-in-None-next_op-clause-begins c = inr (inl (
  refl,
  ended-left c.args.plan.now c.args.self.now c.requires
      (none-ended c.args.plan.now c.args.self.now c.requires (c.time.ensures.none c.in-None.is c.args.self.now.process)
      (sym (ap option_copied c.in-None-next_op.is) ∙ c.next_op.ensures.op)),
))

pub returns-then-left-gt0-clause-value : goal.returns-then-left-gt0-clause-value
returns-then-left-gt0-clause-value c =
    c.ons_left-left.ensures.value
    ∙ ahead-on c.args.plan.now c.args.self.now (omega (arith, c.if-left-gt0.true, c.ons_left-left.ensures.value))

pub returns-in-Some-clause-value : goal.returns-in-Some-clause-value
returns-in-Some-clause-value c =
    ahead-none c.args.plan.now c.args.self.now (omega (arith, c.if-left-gt0.false, c.ons_left-left.ensures.value))
    (left-lives c.args.plan.now c.args.self.now c.requires
    (pending-sounds c.args.plan.now c.args.self.now _ c.requires (c.in-Some.ensures.some c.args.self.now.process)).0)

pub returns-in-Some-next_op-clause-value : goal.returns-in-Some-next_op-clause-value
returns-in-Some-next_op-clause-value c =
    ahead-none c.args.plan.now c.args.self.now (omega (arith, c.if-left-gt0.false, c.ons_left-left.ensures.value))
    (left-lives c.args.plan.now c.args.self.now c.requires
    (op-lives c.args.plan.now c.args.self.now c.in-Some-next_op.field-0.now c.requires
    (c.time.ensures.none c.in-None.is c.args.self.now.process) (sym (ap option_copied c.in-Some-next_op.is) ∙ c.next_op.ensures.op)))

pub returns-in-None-next_op-clause-value : goal.returns-in-None-next_op-clause-value
returns-in-None-next_op-clause-value c =
    ahead-end c.args.plan.now c.args.self.now (omega (arith, c.if-left-gt0.false, c.ons_left-left.ensures.value))
    (ended-left c.args.plan.now c.args.self.now c.requires
    (none-ended c.args.plan.now c.args.self.now c.requires (c.time.ensures.none c.in-None.is c.args.self.now.process)
    (sym (ap option_copied c.in-None-next_op.is) ∙ c.next_op.ensures.op)))
