use Rattle.std.proofs.Common.{◌≡◌, ℕ, ◌+◌, ◌<◌, ◌≤◌, List, [], ◌∷◌, ◌++◌, length, map, take, get_or, Some, sym, ap, ◌∙◌, subst}
use Rattle.std.proofs.lemmas.List.{take_all, take_more}
use Rattle.fm_nest.specs.declared.place.Place.{Place}
use Rattle.fm_strand.specs.Course.{end_place, start_place}
use Rattle.fm_round.specs.Lanes.{IsLaneOf, no_lane, predecessors, lane}
use Rattle.fm_play.specs.Places.{HasLevelsOf, met_place}
use Rattle.fm_round.proofs.Gathering.{map-push}
use Rattle.fm_round.proofs.Running.{any_default}
use Rattle.fm_play.proofs.Meeting.{later_levels, latest_meets, latest_of, latest_of-append, levels_of_end, none_meets}
use Rattle.fm_play.proofs.PlanFacts.{ends_in_levels, starts_where_ends_meet}
use Rattle.fm_round.proofs.Starting.{predecessor_there}
use Rattle.fm_round.proofs.begin.start_of.Goals as goal

pub bounds-lanes-before : goal.bounds-lanes-before
bounds-lanes-before c =
    predecessor_there c.args.plan.now c.args.lanes.now c.predecessors-before-items.result.now c.args.process c.loop-before.before-index
    c.requires.processes.fits c.requires.processes.count c.requires.process c.predecessors-before-items.ensures c.loop-before-test.true

pub end_of-end-requires-clause-lane : goal.end_of-end-requires-clause-lane
end_of-end-requires-clause-lane c =
    let q = get_or c.predecessors-before-items.result.now c.loop-before.before-index 0 in
    let there = predecessor_there c.args.plan.now c.args.lanes.now c.predecessors-before-items.result.now c.args.process
    c.loop-before.before-index
    c.requires.processes.fits c.requires.processes.count c.requires.process c.predecessors-before-items.ensures c.loop-before-test.true in
    let at = c.index-lanes-before.is
    ∙ any_default c.args.lanes.now (get_or c.predecessors-before-items.result.now c.loop-before.before-index 0) c.index-lanes-before.result
    no_lane there in
    subst (IsLaneOf c.args.plan.now (get_or c.predecessors-before-items.result.now c.loop-before.before-index 0)) (sym at)
    (c.requires.processes.lanes (get_or c.predecessors-before-items.result.now c.loop-before.before-index 0) there)

pub end_of-end-requires-clause-ended : goal.end_of-end-requires-clause-ended
end_of-end-requires-clause-ended c =
    let there = predecessor_there c.args.plan.now c.args.lanes.now c.predecessors-before-items.result.now c.args.process
    c.loop-before.before-index
    c.requires.processes.fits c.requires.processes.count c.requires.process c.predecessors-before-items.ensures c.loop-before-test.true in
    let at = c.index-lanes-before.is
    ∙ any_default c.args.lanes.now (get_or c.predecessors-before-items.result.now c.loop-before.before-index 0) c.index-lanes-before.result
    no_lane there in
    let inside : c.loop-before.before-index < length (predecessors c.args.plan.now c.args.process) =
    rw (← c.predecessors-before-items.ensures) c.loop-before-test.true in
    ap (λ s. s.ended) at
    ∙ ap (λ (xs : List ℕ). (lane c.args.lanes.now (get_or xs c.loop-before.before-index 0)).ended) c.predecessors-before-items.ensures
    ∙ c.requires.ended c.loop-before.before-index inside

pub met-requires : goal.met-requires
met-requires c = levels_of_end c.loop-before.latest c.end_of-end.result (start_place c.args.plan.now c.args.process)
    c.loop-before.invariant.levels
    (subst (λ (e : Place). HasLevelsOf e (start_place c.args.plan.now c.args.process))
    (sym (c.end_of-end.ensures
    ∙ ap (λ (xs : List ℕ). end_place c.args.plan.now (get_or xs c.loop-before.before-index 0)) c.predecessors-before-items.ensures))
    (ends_in_levels c.args.plan.now c.args.process c.loop-before.before-index c.requires.processes.fits c.requires.process
    (rw (← c.predecessors-before-items.ensures) c.loop-before-test.true)))

pub loop-before-preserved : goal.loop-before-preserved
loop-before-preserved c =
    let inside : c.loop-before.before-index < length (predecessors c.args.plan.now c.args.process) =
    rw (← c.predecessors-before-items.ensures) c.loop-before-test.true in
    let end : c.end_of-end.result
    ≡ end_place c.args.plan.now (get_or (predecessors c.args.plan.now c.args.process) c.loop-before.before-index 0) =
    c.end_of-end.ensures
    ∙ ap (λ (xs : List ℕ). end_place c.args.plan.now (get_or xs c.loop-before.before-index 0)) c.predecessors-before-items.ensures in
    let more : map (end_place c.args.plan.now) (take (c.loop-before.before-index + 1) (predecessors c.args.plan.now c.args.process))
    ≡ map (end_place c.args.plan.now) (take c.loop-before.before-index (predecessors c.args.plan.now c.args.process))
    ++ c.end_of-end.result ∷ [] =
    ap (map (end_place c.args.plan.now)) (take_more (predecessors c.args.plan.now c.args.process) c.loop-before.before-index 0 inside)
    ∙ map-push (end_place c.args.plan.now) (take c.loop-before.before-index (predecessors c.args.plan.now c.args.process))
    (get_or (predecessors c.args.plan.now c.args.process) c.loop-before.before-index 0)
    ∙ ap (λ (e : Place). map (end_place c.args.plan.now) (take c.loop-before.before-index (predecessors c.args.plan.now c.args.process))
    ++ e ∷ []) (sym end) in
    record {
      latest =
          ap (λ x. Some x) (c.met.ensures ∙ ap (λ o. met_place o c.end_of-end.result) c.loop-before.invariant.latest)
          ∙ sym (ap latest_of more
          ∙ latest_of-append
          (map (end_place c.args.plan.now) (take c.loop-before.before-index (predecessors c.args.plan.now c.args.process)))
          c.end_of-end.result);
      levels = subst (λ (e : Place). HasLevelsOf e (start_place c.args.plan.now c.args.process)) (sym c.met.ensures)
          (later_levels c.loop-before.latest c.end_of-end.result (start_place c.args.plan.now c.args.process) c.loop-before.invariant.levels
          (subst (λ (e : Place). HasLevelsOf e (start_place c.args.plan.now c.args.process)) (sym end)
          (ends_in_levels c.args.plan.now c.args.process c.loop-before.before-index c.requires.processes.fits c.requires.process inside)));
    }

pub returns-in-Some : goal.returns-in-Some
returns-in-Some c =
    let to_end : length (predecessors c.args.plan.now c.args.process) ≤ c.loop-before.before-index =
    rw (← c.predecessors-before-items.ensures) c.loop-before-test.false in
    let all = ap (λ (xs : List ℕ). latest_of (map (end_place c.args.plan.now) xs))
    (take_all c.loop-before.before-index (predecessors c.args.plan.now c.args.process) to_end) in
    let latest = sym all ∙ sym c.loop-before.invariant.latest ∙ c.in-Some.is in
    sym (latest_meets (map (end_place c.args.plan.now) (predecessors c.args.plan.now c.args.process)) c.in-Some.place latest)
    ∙ sym (starts_where_ends_meet c.args.plan.now c.args.process c.requires.processes.fits c.requires.process)

pub returns-in-None : goal.returns-in-None
returns-in-None c =
    let to_end : length (predecessors c.args.plan.now c.args.process) ≤ c.loop-before.before-index =
    rw (← c.predecessors-before-items.ensures) c.loop-before-test.false in
    let all = ap (λ (xs : List ℕ). latest_of (map (end_place c.args.plan.now) xs))
    (take_all c.loop-before.before-index (predecessors c.args.plan.now c.args.process) to_end) in
    let none = sym all ∙ sym c.loop-before.invariant.latest ∙ c.in-None.is in
    c.first.ensures
    ∙ sym (none_meets (map (end_place c.args.plan.now) (predecessors c.args.plan.now c.args.process)) none)
    ∙ sym (starts_where_ends_meet c.args.plan.now c.args.process c.requires.processes.fits c.requires.process)
