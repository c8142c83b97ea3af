use Rattle.std.proofs.Common.{◌≡◌, ◌+◌, ◌<◌, ◌≤◌, ℕ, length, refl, sym, ◌∙◌, subst, arith}
use Rattle.fm_edge.proofs.Chains.{on_err}
use Rattle.fm_line.specs.declared.limits.TheConstants.{MAX_EVENTS}
use Rattle.fm_round.specs.Chain.{link}
use Rattle.fm_round.specs.Lanes.{loads}
use Rattle.fm_round.specs.Turns.{GoesOn}
use Rattle.fm_round.specs.Watching.{AllAwait}
use Rattle.fm_round.proofs.Chaining.{chained_within}
use Rattle.fm_round.proofs.Following.{await_next, await_none}
use Rattle.fm_round.proofs.Goings.{await_served, few_between, goes_more, goes_none, goes_started, goes_stops, less_next, no_less, no_ok, no_value, playing_on, reached_next, watched_served, wider}
use Rattle.fm_round.proofs.Reaching.{Reached, less_same, reached_none}
use Rattle.fm_round.proofs.turn.take_turn.Goals as goal

pub loop-at-init : goal.loop-at-init
loop-at-init g c = record {
  size = refl;
  lead = refl;
  watched = c.requires.watched;
  there = λ _. c.requires.watched.watch.chain.first;
  awaited = c.requires.awaited;
  less = no_less (loads c.args.plan.now 0 c.args.lanes.now);
  goes = goes_none c.args.sink.now c.args.writer.now c.args.lanes.now c.args.stage.now.gather;
  reached = λ _. reached_none c.args.plan.now c.args.tick c.args.lanes.now c.requires.from;
}

pub serve-requires-clause-there : goal.serve-requires-clause-there
serve-requires-clause-there g c = c.loop-at-test.true

pub serve-requires-clause-may : goal.serve-requires-clause-may
serve-requires-clause-may g c = playing_on c.loop-at.events c.requires.may c.loop-at.invariant.goes

pub serve-requires-clause-from : goal.serve-requires-clause-from
serve-requires-clause-from g c = λ is. (c.loop-at.invariant.reached is).from

pub returns-in_err-count-clause-err : goal.returns-in_err-count-clause-err
returns-in_err-count-clause-err g c =
    on_err c.from_residual.result (goes_stops c.loop-at.events c.loop-at.invariant.goes c.in_err-count.ensures.err)

pub returns-in_err-count-clause-turned : goal.returns-in_err-count-clause-turned
returns-in_err-count-clause-turned g c = no_ok _ c.from_residual.result c.from_residual.ensures.0

pub returns-in_err-count-clause-lead : goal.returns-in_err-count-clause-lead
returns-in_err-count-clause-lead g c = no_ok _ c.from_residual.result c.from_residual.ensures.0

pub returns-in_err-count-clause-goes : goal.returns-in_err-count-clause-goes
returns-in_err-count-clause-goes g c = no_value _ c.from_residual.result c.from_residual.ensures.0

pub overflow_add-events : goal.overflow_add-events
overflow_add-events g c =
    let few : c.requires.may.events + c.loop-at.events + c.in_ok-count.count ≤ MAX_EVENTS =
    few_between c.requires.may.fits
    (c.in_ok-count.ensures.goes c.requires.may.room c.requires.may.begin c.requires.may.first
    (c.requires.may.events + c.loop-at.events) c.requires.may.begun
    (c.loop-at.invariant.goes c.requires.may.room c.requires.may.begin c.requires.may.first c.requires.may.events
    c.requires.may.begun c.requires.may.between)) in
    omega arith

pub visit-requires-clause-watched : goal.visit-requires-clause-watched
visit-requires-clause-watched g c = record {
  processes = record {
    fits = c.requires.may.fits;
    count = c.serve.auto.lanes ∙ c.loop-at.invariant.size ∙ c.requires.watched.processes.count;
    lanes = (c.in_ok-count.ensures.goes c.requires.may.room c.requires.may.begin c.requires.may.first
        (c.requires.may.events + c.loop-at.events) c.requires.may.begun
        (c.loop-at.invariant.goes c.requires.may.room c.requires.may.begin c.requires.may.first c.requires.may.events
        c.requires.may.begun c.requires.may.between)).lanes;
  };
  watch = watched_served c.args.plan.now c.requires.may.fits c.loop-at.stage.watch c.args.tick c.loop-at.at c.in_ok-count.all
      c.loop-at.lanes c.serve.new.lanes c.loop-at.invariant.watched.watch
      (c.loop-at.invariant.size ∙ c.requires.watched.processes.count) c.in_ok-count.ensures.serves
      (c.loop-at.invariant.there c.loop-at-test.true);
}

pub visit-requires-clause-before : goal.visit-requires-clause-before
visit-requires-clause-before g c = subst (λ (n : ℕ). c.loop-at.at < n) (sym c.serve.auto.lanes) c.loop-at-test.true

pub visit-requires-clause-chained : goal.visit-requires-clause-chained
visit-requires-clause-chained g c = c.loop-at.invariant.there c.loop-at-test.true

pub visit-requires-clause-awaited : goal.visit-requires-clause-awaited
visit-requires-clause-awaited g c =
    await_served c.args.plan.now c.requires.may.fits c.loop-at.stage.watch c.args.tick c.loop-at.at c.in_ok-count.all c.loop-at.lanes
    c.serve.new.lanes c.loop-at.invariant.watched.watch (c.loop-at.invariant.size ∙ c.requires.watched.processes.count)
    c.in_ok-count.ensures.serves (c.loop-at.invariant.there c.loop-at-test.true) c.loop-at.invariant.awaited

pub loop-at-smaller : goal.loop-at-smaller
loop-at-smaller g c =
    let chain = c.visit.ensures.watched.watch.chain in
    let on = c.visit.ensures.chained in
    let is = c.after-at.ensures in
    let rises = chain.rises c.loop-at.at on in
    let test : c.loop-at.at < length c.loop-at.lanes = c.loop-at-test.true in
    let served = c.serve.auto.lanes in
    let visited = c.visit.auto.lanes in
    omega (arith, is, rises, test, served, visited)

pub loop-at-preserved : goal.loop-at-preserved
loop-at-preserved g c =
    let chain = c.visit.ensures.watched.watch.chain in
    let on = c.visit.ensures.chained in
    let is = c.after-at.ensures in
    let awaits : AllAwait c.args.plan.now c.visit.new.watch (link c.visit.new.watch.next.items c.loop-at.at) c.visit.new.lanes =
    await_next c.args.plan.now c.visit.new.watch c.loop-at.at c.visit.new.lanes chain c.visit.ensures.awaited in
    let size : length c.visit.new.lanes ≡ length c.args.lanes.now =
    c.visit.auto.lanes ∙ c.serve.auto.lanes ∙ c.loop-at.invariant.size in
    let goes : GoesOn g.K.Append.seen c.args.plan.now (c.loop-at.events + c.in_ok-count.count) c.args.sink.now c.serve.new.sink
    c.args.writer.now c.serve.new.writer c.args.lanes.now c.visit.new.lanes c.args.stage.now.gather c.serve.new.gather =
    goes_started {p = c.args.plan.now} (c.loop-at.events + c.in_ok-count.count) c.loop-at.at c.serve.new.lanes c.visit.new.lanes
    (goes_more {p = c.args.plan.now} c.loop-at.events c.in_ok-count.count c.loop-at.invariant.goes c.in_ok-count.ensures.goes)
    c.visit.ensures.starts c.visit.auto.lanes in
    let between = goes c.requires.may.room c.requires.may.begin c.requires.may.first c.requires.may.events c.requires.may.begun
    c.requires.may.between in
    record {
      size = size;
      lead = c.loop-at.invariant.lead;
      watched = c.visit.ensures.watched;
      there = λ less. subst (λ (x : ℕ). 0 < link c.visit.new.watch.next.items x) (sym is)
          (chain.linked c.loop-at.at on
          (less_same c.after-at.result (link c.visit.new.watch.next.items c.loop-at.at) (length c.visit.new.lanes)
          (length c.visit.new.watch.next.items) is less (between.count ∙ sym c.visit.ensures.watched.watch.size)));
      awaited = subst (λ (x : ℕ). AllAwait c.args.plan.now c.visit.new.watch x c.visit.new.lanes) (sym is) awaits;
      less = less_next c.args.plan.now c.args.tick c.loop-at.at c.in_ok-count.all c.loop-at.lanes c.serve.new.lanes
          c.visit.new.lanes c.in_ok-count.ensures.serves c.visit.ensures.starts (loads c.args.plan.now 0 c.args.lanes.now)
          c.loop-at.invariant.less;
      goes = goes;
      reached = λ all. subst (λ (x : ℕ). Reached c.args.plan.now c.args.tick x c.visit.new.lanes) (sym is)
          (reached_next c.args.plan.now c.args.tick c.loop-at.at c.in_ok-count.all c.loop-at.lanes c.serve.new.lanes
          c.visit.new.lanes c.in_ok-count.ensures.serves c.visit.ensures.starts c.requires.may.fits between c.visit.new.watch
          c.visit.ensures.watched.watch on awaits (c.loop-at.invariant.reached (c.in_ok-count.ensures.whole all)) all);
    }

pub leave-requires : goal.leave-requires
leave-requires g c = record {
  chain = c.loop-at.invariant.watched.watch.chain;
  size = c.loop-at.invariant.watched.watch.size ∙ sym c.loop-at.invariant.watched.processes.count;
  idle = c.loop-at.invariant.watched.watch.idle;
}

pub returns-clause-turned : goal.returns-clause-turned
returns-clause-turned g c =
    let watch = c.loop-at.invariant.watched.watch in
    let count = c.loop-at.invariant.watched.processes.count in record {
      watched = record {
        processes = c.loop-at.invariant.watched.processes;
        watch = record {
          chain = c.leave.ensures.chain;
          size = c.leave.ensures.size ∙ count;
          guesses = watch.guesses;
          lists = watch.lists;
          later = watch.later;
          idle = c.leave.ensures.idle;
          known = watch.known;
        };
      };
      started = await_none c.args.plan.now c.loop-at.stage.watch c.loop-at.at c.loop-at.lanes c.loop-at.invariant.awaited watch.chain
          (watch.size ∙ sym count) c.loop-at-test.false;
      size = c.loop-at.invariant.size;
      less = c.loop-at.invariant.less;
    }

pub returns-clause-lead : goal.returns-clause-lead
returns-clause-lead g c = c.loop-at.invariant.lead

pub returns-clause-goes : goal.returns-clause-goes
returns-clause-goes g c = c.loop-at.invariant.goes

pub returns-clause-err : goal.returns-clause-err
returns-clause-err g c = tt

pub overflow_cast-at : goal.overflow_cast-at
overflow_cast-at g c = wider c.loop-at.at c.loop-at.auto.at-fits

pub after-at-requires : goal.after-at-requires
after-at-requires g c =
    chained_within c.visit.new.watch.next.items c.visit.ensures.watched.watch.chain c.loop-at.at c.visit.ensures.chained
