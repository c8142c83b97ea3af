use Rattle.std.proofs.Common.{arith, inr}
use Rattle.fm_position.specs.PositionLine.{position_text}
use Rattle.fm_top.proofs.Locating.{position_taken, process_lacking}
use Rattle.fm_top.proofs.positions.locate_tick.Goals as goal

pub returns-then-process-processes-clause-err : goal.returns-then-process-processes-clause-err
returns-then-process-processes-clause-err g c = record {
  input = c.in_ok-plan.ensures.planned.text;
  taken = c.in_ok-plan.ensures.planned.all.taken;
  whole = inr c.in_ok-plan.ensures.planned.all.ended;
  holds = process_lacking c.plans_play_the_score.ensures _ _ c.in_ok-plan.plan c.in_ok-plan.ensures.planned c.args.process
      (omega (arith, c.if-process-processes.true, c.processes.ensures.value));
}

pub returns-in-Ok-clause-ok : goal.returns-in-Ok-clause-ok
returns-in-Ok-clause-ok g c =
    position_taken c.plans_play_the_score.ensures _ _ c.in_ok-plan.plan c.in_ok-plan.ensures.planned c.args.tick c.args.process
    (position_text c.in-Ok.position) (omega (arith, c.if-process-processes.false, c.processes.ensures.value))
    c.in-Ok.ensures.told
