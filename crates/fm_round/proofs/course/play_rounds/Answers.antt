use Rattle.std.proofs.Common.{◌≡◌, ◌+◌, ◌-◌, ◌^◌, ℕ, List, length, map, min, Some, None, refl, sym, ap, ◌∙◌, subst, arith}
use Rattle.fm_edge.proofs.Chains.{on_err}
use Rattle.fm_round.specs.Lefts.{joined}
use Rattle.fm_round.specs.Lanes.{AllAtEnd, due}
use Rattle.fm_round.specs.Rounds.{first_room}
use Rattle.fm_round.specs.Halfway.{Between}
use Rattle.fm_round.specs.Watching.{Watched}
use Rattle.fm_round.specs.declared.lane.Lane.{Lane}
use Rattle.fm_round.specs.declared.stage.Stage.{Stage}
use Rattle.fm_program.specs.Parts.{PlanParts}
use Rattle.fm_round.proofs.Between.{Interval, few_events, first_between, interval, last_count, last_ends, last_first, last_writes, may_release, next_first, release_breaks}
use Rattle.fm_round.proofs.NextRound.{HasRan, has_ran}
use Rattle.fm_round.proofs.Goings.{few_between, is_playing, no_ok, no_value}
use Rattle.fm_round.proofs.Turning.{few_lanes, first_watched, is_round, stays_awaited, stays_watched, watch_chained}
use Rattle.fm_round.proofs.course.play_rounds.Given.{Over}
use Rattle.fm_round.proofs.course.play_rounds.Goals.{After-take_turn-arg-in-Some-3-1, In-Some, In_default}
use Rattle.fm_round.proofs.course.play_rounds.Goals as goal

pub begin_first-requires : goal.begin_first-requires
begin_first-requires g c = record { watched = first_watched c.args.plan.now c.args.stage.now c.args.lanes.now c.requires.opened }

pub loop-next-init : goal.loop-next-init
loop-next-init g c = record {
  between = first_between c.requires.opened.opened c.requires.at_end c.begin_first.ensures.starts c.begin_first.auto.lanes;
  started = c.begin_first.ensures.starts.started;
  watched = c.begin_first.ensures.watched.watch;
  lead = refl;
}

-- ---- a round

-- what is known before it
abbrev before : (g : Over) (c : In-Some g) → Interval g.K.Append.seen c.args.plan.now
before g c = interval c.requires.opened c.requires.begun c.loop-next.invariant.between

pub release-requires-clause-may : goal.release-requires-clause-may
release-requires-clause-may g c =
    let here = before g (goal.at.release-requires-clause-may g c).In-Some in
    may_release here (Some c.in-Some.next)
    (next_first here c.loop-next.invariant.started c.in-Some.next.0 c.in-Some.next.1 c.in-Some.ensures)

pub returns-in_err-events-clause-err : goal.returns-in_err-events-clause-err
returns-in_err-events-clause-err g c =
    let here = before g (goal.at.returns-in_err-events-clause-err g c).In-Some in
    on_err c.from_residual.result (release_breaks here (Some c.in-Some.next)
    (next_first here c.loop-next.invariant.started c.in-Some.next.0 c.in-Some.next.1 c.in-Some.ensures)
    c.release.new.sink c.in_err-events.ensures.err)

pub overflow_add-events : goal.overflow_add-events
overflow_add-events g c =
    let here = before g (goal.at.overflow_add-events g c).In-Some in
    let few = few_events here (Some c.in-Some.next)
    (next_first here c.loop-next.invariant.started c.in-Some.next.0 c.in-Some.next.1 c.in-Some.ensures) in
    let count = c.in_ok-events.ensures.count in omega arith

-- what was watched before it is watched after its release
watched_on : {p : PlanParts} {w v : Stage} {ss : List Lane} → v ≡ w → Watched p w.watch ss → Watched p v.watch ss
watched_on {p} {w} {v} {ss} same watched = subst (λ (x : Stage). Watched p x.watch ss) (sym same) watched

pub run_round-requires : goal.run_round-requires
run_round-requires g c = record {
  room = first_room c.args.lanes.now;
  lead = c.args.stage.now.lead;
  are = c.requires.hands;
  round = is_round (before g (goal.at.run_round-requires g c).In-Some)
      c.loop-next.invariant.watched (Some c.in-Some.next) c.in_ok-events.ensures.lanes c.args.stage.now.lead
      c.saturating_add-limit.result c.in-Some.next.0 c.in-Some.next.1 _ c.in-Some.ensures
      (ap (λ (x : Stage). x.watch.next.items) c.in_ok-events.ensures.stage)
      (c.saturating_add-limit.ensures ∙ ap (λ l. min (c.in-Some.next.0 + l) (2 ^ 64 - 1))
      (ap (λ (x : Stage). x.lead) c.in_ok-events.ensures.stage ∙ c.loop-next.invariant.lead));
}

pub take_turn-requires-clause-watched : goal.take_turn-requires-clause-watched
take_turn-requires-clause-watched g c =
    stays_watched (before g (goal.at.take_turn-requires-clause-watched g c).In-Some)
    (watched_on c.in_ok-events.ensures.stage c.loop-next.invariant.watched)
    (Some c.in-Some.next) c.in_ok-events.ensures.lanes c.run_round.ensures c.run_round.auto.lanes

pub take_turn-requires-clause-awaited : goal.take_turn-requires-clause-awaited
take_turn-requires-clause-awaited g c =
    stays_awaited (before g (goal.at.take_turn-requires-clause-awaited g c).In-Some)
    (watched_on c.in_ok-events.ensures.stage c.loop-next.invariant.watched)
    (Some c.in-Some.next) c.in_ok-events.ensures.lanes c.loop-next.invariant.started c.run_round.ensures c.run_round.auto.lanes

-- ---- the turn

-- what is known before it: the events that were written and what is left
around : (g : Over) (c : After-take_turn-arg-in-Some-3-1 g) → HasRan g.K.Append.seen c.args.plan.now (first_room c.args.lanes.now)
    c.args.sink.now c.release.new.sink c.args.writer.now c.release.new.writer c.loop-next.lanes c.run_round.new.lanes
    c.release.new.stage.gather c.in-Some.next.0 (c.loop-next.events + length (joined (map (due (Some c.in-Some.next)) c.loop-next.lanes)))
around g c =
    has_ran (interval c.requires.opened c.requires.begun c.loop-next.invariant.between) c.loop-next.invariant.started
    c.in-Some.next.0 c.in-Some.next.1 c.saturating_add-limit.result c.in-Some.ensures (omega arith) c.in_ok-events.ensures.lanes
    c.in_ok-events.ensures.ok (ap (λ (x : Stage). x.gather) c.in_ok-events.ensures.stage) c.run_round.ensures c.run_round.auto.lanes

pub take_turn-requires-clause-may : goal.take_turn-requires-clause-may
take_turn-requires-clause-may g c =
    is_playing c.requires.opened.opened.fits c.requires.begun
    (around g (goal.at.take_turn-requires-clause-may g c).After-take_turn-arg-in-Some-3-1).between

pub take_turn-requires-clause-from : goal.take_turn-requires-clause-from
take_turn-requires-clause-from g c = (around g (goal.at.take_turn-requires-clause-from g c).After-take_turn-arg-in-Some-3-1).from

pub returns-in_err-events-2-clause-err : goal.returns-in_err-events-2-clause-err
returns-in_err-events-2-clause-err g c =
    on_err c.from_residual-in_err-events-2.result
    (c.in_err-events-2.ensures.err (first_room c.args.lanes.now) c.args.sink.now c.args.writer.now _ c.requires.begun
    (around g (goal.at.returns-in_err-events-2-clause-err g c).After-take_turn-arg-in-Some-3-1).between)

pub overflow_add-events-in-Some : goal.overflow_add-events-in-Some
overflow_add-events-in-Some g c =
    let few = few_between c.requires.opened.opened.fits
    (c.in_ok-events-2.ensures.goes (first_room c.args.lanes.now) c.args.sink.now c.args.writer.now _ c.requires.begun
    (around g (goal.at.overflow_add-events-in-Some g c).After-take_turn-arg-in-Some-3-1).between) in
    let count = c.in_ok-events.ensures.count in omega arith

pub loop-next-smaller : goal.loop-next-smaller
loop-next-smaller g c =
    (around g (goal.at.loop-next-smaller g c).After-take_turn-arg-in-Some-3-1).falls
    c.take_turn.new.stage.watch c.take_turn.new.lanes c.in_ok-events-2.ensures.turned

pub loop-next-preserved : goal.loop-next-preserved
loop-next-preserved g c = record {
  between =
      subst (λ (n : ℕ). Between g.K.Append.seen c.args.plan.now (first_room c.args.lanes.now) c.args.sink.now c.take_turn.new.sink
      c.args.writer.now c.take_turn.new.writer c.take_turn.new.lanes c.take_turn.new.stage.gather n)
      (let count = c.in_ok-events.ensures.count in omega arith)
      (c.in_ok-events-2.ensures.goes (first_room c.args.lanes.now) c.args.sink.now c.args.writer.now _ c.requires.begun
      (around g (goal.at.loop-next-preserved g c).After-take_turn-arg-in-Some-3-1).between);
  started = c.in_ok-events-2.ensures.turned.started;
  watched = c.in_ok-events-2.ensures.turned.watched.watch;
  lead = c.in_ok-events-2.ensures.lead ∙ ap (λ (x : Stage). x.lead) c.in_ok-events.ensures.stage ∙ c.loop-next.invariant.lead;
}

-- ---- the end

-- what is known before the last release
abbrev last : (g : Over) (c : In_default g) → Interval g.K.Append.seen c.args.plan.now
last g c = interval c.requires.opened c.requires.begun c.loop-next.invariant.between

pub release-requires-2-clause-may : goal.release-requires-2-clause-may
release-requires-2-clause-may g c =
    let here = last g (goal.at.release-requires-2-clause-may g c).In_default in
    may_release here None (last_first here c.loop-next.invariant.started c.in_default.ensures)

pub returns-in_err-events-3-clause-err : goal.returns-in_err-events-3-clause-err
returns-in_err-events-3-clause-err g c =
    let here = last g (goal.at.returns-in_err-events-3-clause-err g c).In_default in
    on_err c.from_residual-in_err-events-3.result
    (release_breaks here None (last_first here c.loop-next.invariant.started c.in_default.ensures) c.release-2.new.sink
    c.in_err-events-3.ensures.err)

pub overflow_add-events-2 : goal.overflow_add-events-2
overflow_add-events-2 g c =
    let here = last g (goal.at.overflow_add-events-2 g c).In_default in
    let few = few_events here None (last_first here c.loop-next.invariant.started c.in_default.ensures) in
    let count = c.in_ok-events-3.ensures.count in omega arith

pub returns-clause-ended : goal.returns-clause-ended
returns-clause-ended g c = subst (AllAtEnd c.args.plan.now) (sym c.in_ok-events-3.ensures.lanes)
    (last_ends (last g (goal.at.returns-clause-ended g c).In_default) c.loop-next.invariant.started c.in_default.ensures)

pub returns-clause-count : goal.returns-clause-count
returns-clause-count g c =
    ap (λ n. c.loop-next.events + n) c.in_ok-events-3.ensures.count
    ∙ last_count (last g (goal.at.returns-clause-count g c).In_default) c.loop-next.invariant.started c.in_default.ensures

pub returns-clause-ok : goal.returns-clause-ok
returns-clause-ok g c =
    last_writes (last g (goal.at.returns-clause-ok g c).In_default) c.loop-next.invariant.started c.in_default.ensures
    c.release-2.new.sink c.release-2.new.writer c.in_ok-events-3.ensures.ok

pub returns-in_err-events-clause-ended : goal.returns-in_err-events-clause-ended
returns-in_err-events-clause-ended g c = no_ok _ c.from_residual.result c.from_residual.ensures.0

pub returns-in_err-events-clause-count : goal.returns-in_err-events-clause-count
returns-in_err-events-clause-count g c = no_value _ c.from_residual.result c.from_residual.ensures.0

pub returns-in_err-events-clause-ok : goal.returns-in_err-events-clause-ok
returns-in_err-events-clause-ok g c = no_ok _ c.from_residual.result c.from_residual.ensures.0

pub returns-in_err-events-2-clause-ended : goal.returns-in_err-events-2-clause-ended
returns-in_err-events-2-clause-ended g c = no_ok _ c.from_residual-in_err-events-2.result c.from_residual-in_err-events-2.ensures.0

pub returns-in_err-events-2-clause-count : goal.returns-in_err-events-2-clause-count
returns-in_err-events-2-clause-count g c = no_value _ c.from_residual-in_err-events-2.result c.from_residual-in_err-events-2.ensures.0

pub returns-in_err-events-2-clause-ok : goal.returns-in_err-events-2-clause-ok
returns-in_err-events-2-clause-ok g c = no_ok _ c.from_residual-in_err-events-2.result c.from_residual-in_err-events-2.ensures.0

pub returns-in_err-events-3-clause-ended : goal.returns-in_err-events-3-clause-ended
returns-in_err-events-3-clause-ended g c = no_ok _ c.from_residual-in_err-events-3.result c.from_residual-in_err-events-3.ensures.0

pub returns-in_err-events-3-clause-count : goal.returns-in_err-events-3-clause-count
returns-in_err-events-3-clause-count g c = no_value _ c.from_residual-in_err-events-3.result c.from_residual-in_err-events-3.ensures.0

pub returns-in_err-events-3-clause-ok : goal.returns-in_err-events-3-clause-ok
returns-in_err-events-3-clause-ok g c = no_ok _ c.from_residual-in_err-events-3.result c.from_residual-in_err-events-3.ensures.0

pub returns-clause-err : goal.returns-clause-err
returns-clause-err g c = tt

pub least-requires-clause-lanes : goal.least-requires-clause-lanes
least-requires-clause-lanes g c = c.loop-next.invariant.between.lanes

pub release-requires-clause-at_end : goal.release-requires-clause-at_end
release-requires-clause-at_end g c = c.loop-next.invariant.between.at_end

pub release-requires-2-clause-at_end : goal.release-requires-2-clause-at_end
release-requires-2-clause-at_end g c = c.loop-next.invariant.between.at_end

pub least-requires-clause-few : goal.least-requires-clause-few
least-requires-clause-few g c =
    few_lanes c.args.plan.now c.loop-next.lanes c.requires.opened.opened.fits c.loop-next.invariant.between.count

pub least-requires-clause-chained : goal.least-requires-clause-chained
least-requires-clause-chained g c =
    watch_chained c.args.plan.now c.loop-next.stage.watch c.loop-next.lanes c.deref.result.now c.loop-next.invariant.watched
    c.loop-next.invariant.between.count c.deref.ensures.value

pub release-requires-clause-chained : goal.release-requires-clause-chained
release-requires-clause-chained g c =
    watch_chained c.args.plan.now c.loop-next.stage.watch c.loop-next.lanes c.loop-next.stage.watch.next.items
    c.loop-next.invariant.watched c.loop-next.invariant.between.count refl

pub release-requires-2-clause-chained : goal.release-requires-2-clause-chained
release-requires-2-clause-chained g c =
    watch_chained c.args.plan.now c.loop-next.stage.watch c.loop-next.lanes c.loop-next.stage.watch.next.items
    c.loop-next.invariant.watched c.loop-next.invariant.between.count refl
