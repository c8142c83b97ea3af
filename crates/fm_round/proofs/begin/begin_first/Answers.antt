use Rattle.std.proofs.Common.{◌∙◌, refl, arith}
use Rattle.fm_round.proofs.Watched.{begins_nothing, some_more, started_next}
use Rattle.fm_round.proofs.begin.begin_first.Goals as goal

pub ask-requires-clause-watched : goal.ask-requires-clause-watched
ask-requires-clause-watched c = c.loop-process.invariant.watched

pub loop-process-init : goal.loop-process-init
loop-process-init c = record {
  size = refl;
  starts = (begins_nothing c.args.plan.now 0 c.args.lanes.now c.requires.watched.processes.lanes).some;
  started = λ j below none. absurd (omega (arith, below));
  watched = c.requires.watched;
}

pub loop-process-preserved : goal.loop-process-preserved
loop-process-preserved c = record {
  size = c.ask.auto.lanes ∙ c.loop-process.invariant.size;
  starts = some_more c.args.plan.now c.args.lanes.now c.loop-process.lanes c.ask.new.lanes c.loop-process.invariant.starts
      c.ask.ensures.begins.some;
  started = started_next c.args.plan.now c.loop-process.lanes c.ask.new.lanes c.loop-process.process c.ask.ensures.begins
      c.ask.ensures.waits c.loop-process.invariant.started;
  watched = c.ask.ensures.watched;
}

pub returns-clause-watched : goal.returns-clause-watched
returns-clause-watched c = c.loop-process.invariant.watched
