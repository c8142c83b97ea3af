use Rattle.std.proofs.Common.{◌≡◌, ◌*◌, length, refl, arith, sym, ap, ◌∙◌, inl, inr}
use Rattle.std.specs.Option.{option_copied}
use Rattle.fm_player.proofs.CourseLemmas.{steps-most}
use Rattle.fm_player.proofs.StepLemmas.{step-done, step-can, step-ended, step-due}
use Rattle.fm_player.proofs.ReadLemmas.{none-ended}
use Rattle.fm_player.proofs.player.Player.step.Goals as goal

pub overflow_add-self : goal.overflow_add-self
overflow_add-self c =
    omega (arith, c.requires.within, steps-most c.args.plan.now c.args.self.now.process c.requires.fits c.requires.process)

pub operate-stepped-requires : goal.operate-stepped-requires
operate-stepped-requires c =
    let can = step-can c.args.plan.now c.args.self.now c.in-Some.op.now c.requires
    (c.is_left.ensures.none c.if-is_left.false c.args.self.now.process)
    (sym (ap option_copied c.in-Some.is) ∙ c.next_op.ensures.op) c.in-Some.ensures.small in
    (can.can, can.fits)

pub overflow_add-self-in-Some : goal.overflow_add-self-in-Some
overflow_add-self-in-Some c =
    omega (
      arith,
      c.operate-stepped.ensures.does.made,
      c.requires.within,
      steps-most c.args.plan.now c.args.self.now.process c.requires.fits c.requires.process,
    )

pub returns-then-is_left-clause-step : goal.returns-then-is_left-clause-step
returns-then-is_left-clause-step c =
    step-due c.args.plan.now c.args.self.now c.take-event.new.self c.take-event.result c.requires c.take-event.ensures.pending
    c.take-event.ensures.event

pub returns-in-None-clause-step : goal.returns-in-None-clause-step
returns-in-None-clause-step c =
    step-ended c.args.plan.now c.args.self.now c.requires
    (none-ended c.args.plan.now c.args.self.now c.requires (c.is_left.ensures.none c.if-is_left.false c.args.self.now.process)
    (sym (ap option_copied c.in-None.is) ∙ c.next_op.ensures.op))

pub returns-in-Some-clause-step : goal.returns-in-Some-clause-step
returns-in-Some-clause-step c =
    let can = step-can c.args.plan.now c.args.self.now c.in-Some.op.now c.requires
    (c.is_left.ensures.none c.if-is_left.false c.args.self.now.process)
    (sym (ap option_copied c.in-Some.is) ∙ c.next_op.ensures.op) c.in-Some.ensures.small in
    step-done c.args.plan.now c.args.self.now c.operate-stepped.new.self c.in-Some.op.now c.operate-stepped.result c.requires can
    c.operate-stepped.ensures.does c.operate-stepped.ensures.answer

pub returns-then-is_left-clause-note : goal.returns-then-is_left-clause-note
returns-then-is_left-clause-note c = inl (c.is_left.ensures.left c.if-is_left.true, c.take-event.ensures.given)

pub returns-in-None-clause-note : goal.returns-in-None-clause-note
returns-in-None-clause-note c =
    let past : 2 * length c.args.self.now.note.keys.items ≡ c.args.self.now.note.given =
    omega (arith, c.is_left.ensures.past c.if-is_left.false, c.requires.ready.note.given) in
    inr (past, inl refl)

pub returns-in-Some-clause-note : goal.returns-in-Some-clause-note
returns-in-Some-clause-note c =
    let past : 2 * length c.args.self.now.note.keys.items ≡ c.args.self.now.note.given =
    omega (arith, c.is_left.ensures.past c.if-is_left.false, c.requires.ready.note.given) in
    inr (past, c.operate-stepped.ensures.note)
