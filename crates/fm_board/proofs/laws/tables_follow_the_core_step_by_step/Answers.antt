use Rattle.fm_board.proofs.StepByStep.{core_step_by_step, run_step_by_step}
use Rattle.fm_board.proofs.laws.tables_follow_the_core_step_by_step.Goals as goal

pub returns : goal.returns
returns c = record { core = core_step_by_step; run = run_step_by_step }
