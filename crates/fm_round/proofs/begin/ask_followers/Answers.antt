use Rattle.std.proofs.Common.{◌∙◌, Some, None, refl, ap, [], ◌++◌, arith}
use Rattle.fm_round.proofs.Following.{await_more, await_past}
use Rattle.fm_round.proofs.Listing.{takes_there}
use Rattle.fm_round.proofs.Watched.{behind_more, watched_taken}
use Rattle.fm_round.proofs.begin.ask_followers.Goals as goal

pub ask-requires-clause-watched : goal.ask-requires-clause-watched
ask-requires-clause-watched c = record {
  processes = c.loop-process.invariant.watched.processes;
  watch = watched_taken c.args.plan.now c.loop-process.watch (record (c.loop-process.watch) { followers = c.take_follower.new.lists })
      c.args.before (Some c.in-Some.process) c.loop-process.lanes c.loop-process.invariant.watched.watch refl refl c.in-Some.ensures
      (c.loop-process.invariant.starts.some.ended c.args.before ∙ c.requires.ended);
}

pub ask-requires-clause-process : goal.ask-requires-clause-process
ask-requires-clause-process c =
    (c.loop-process.invariant.watched.watch.later c.args.before c.in-Some.process
    (takes_there c.args.before c.in-Some.process c.loop-process.watch.followers.items c.take_follower.new.lists.items c.in-Some.ensures)).1

pub ask-requires-clause-from : goal.ask-requires-clause-from
ask-requires-clause-from c =
    let less = (c.loop-process.invariant.watched.watch.later c.args.before c.in-Some.process
    (takes_there c.args.before c.in-Some.process c.loop-process.watch.followers.items c.take_follower.new.lists.items
    c.in-Some.ensures)).0 in
    (omega arith, c.loop-process.invariant.chained)

pub loop-process-preserved : goal.loop-process-preserved
loop-process-preserved c = record {
  size = c.ask.auto.lanes ∙ c.loop-process.invariant.size;
  starts = behind_more c.args.plan.now c.args.before c.in-Some.process c.args.lanes.now c.loop-process.lanes c.ask.new.lanes
      c.loop-process.invariant.starts c.ask.ensures.begins
      (c.loop-process.invariant.watched.watch.later c.args.before c.in-Some.process
      (takes_there c.args.before c.in-Some.process c.loop-process.watch.followers.items c.take_follower.new.lists.items c.in-Some.ensures)).0;
  watched = c.ask.ensures.watched;
  chained = c.ask.ensures.chain c.args.before c.loop-process.invariant.chained;
  awaited = await_more c.args.plan.now c.loop-process.watch c.ask.new.watch c.take_follower.new.lists c.args.before c.in-Some.process
      c.loop-process.lanes c.ask.new.lanes c.ask.ensures.begins c.ask.ensures.waits c.ask.auto.lanes c.ask.ensures.chain
      c.in-Some.ensures c.ask.ensures.lists c.loop-process.invariant.awaited;
}

pub returns-clause-watched : goal.returns-clause-watched
returns-clause-watched c = record {
  processes = c.loop-process.invariant.watched.processes;
  watch = watched_taken c.args.plan.now c.loop-process.watch (record (c.loop-process.watch) { followers = c.take_follower.new.lists })
      c.args.before None c.loop-process.lanes c.loop-process.invariant.watched.watch refl refl c.in_default.ensures
      (c.loop-process.invariant.starts.some.ended c.args.before ∙ c.requires.ended);
}

pub returns-clause-awaited : goal.returns-clause-awaited
returns-clause-awaited c =
    await_past c.args.plan.now c.loop-process.watch c.args.before c.loop-process.lanes c.loop-process.invariant.awaited
    (record (c.loop-process.watch) { followers = c.take_follower.new.lists }) refl (c.in_default.ensures.none refl)
    c.in_default.ensures.others (c.in_default.ensures.here ∙ ap (λ xs. xs ++ []) (c.in_default.ensures.none refl))
