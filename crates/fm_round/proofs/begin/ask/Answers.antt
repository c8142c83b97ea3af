use Rattle.std.proofs.Common.{refl, ◌∙◌}
use Rattle.fm_round.proofs.Watched.{watched_joined, watched_same}
use Rattle.fm_round.proofs.begin.ask.Goals as goal

pub begin_if_ready-requires-clause-processes : goal.begin_if_ready-requires-clause-processes
begin_if_ready-requires-clause-processes c = c.requires.watched.processes

pub join-requires-clause-chain : goal.join-requires-clause-chain
join-requires-clause-chain c = c.requires.watched.watch.chain

pub returns-then-begin_if_ready-clause-watched : goal.returns-then-begin_if_ready-clause-watched
returns-then-begin_if_ready-clause-watched c = record {
  processes = record {
    fits = c.requires.watched.processes.fits;
    count = c.begin_if_ready.auto.lanes ∙ c.requires.watched.processes.count;
    lanes = c.begin_if_ready.ensures.begins.some.lanes;
  };
  watch = watched_joined c.args.plan.now c.args.watch.now _ c.args.process c.args.lanes.now c.begin_if_ready.new.lanes
      c.requires.watched.watch c.begin_if_ready.ensures.begins c.begin_if_ready.auto.lanes c.join.ensures
      c.begin_if_ready.ensures.guesses refl;
}

pub returns-else-begin_if_ready-clause-watched : goal.returns-else-begin_if_ready-clause-watched
returns-else-begin_if_ready-clause-watched c = record {
  processes = record {
    fits = c.requires.watched.processes.fits;
    count = c.begin_if_ready.auto.lanes ∙ c.requires.watched.processes.count;
    lanes = c.begin_if_ready.ensures.begins.some.lanes;
  };
  watch = rw (c.begin_if_ready.ensures.no c.if-begin_if_ready.false)
      (watched_same c.args.plan.now c.args.watch.now _ c.args.lanes.now c.requires.watched.watch refl
      c.begin_if_ready.ensures.guesses refl);
}

pub returns-then-begin_if_ready-clause-chain : goal.returns-then-begin_if_ready-clause-chain
returns-then-begin_if_ready-clause-chain c = c.join.ensures.kept
