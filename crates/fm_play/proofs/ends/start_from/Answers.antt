-- The ends of the predecessors meet where the process starts.
use Rattle.std.proofs.Common.{◌≡◌, ℕ, ◌+◌, ◌<◌, ◌≤◌, List, [], ◌∷◌, ◌++◌, length, map, take, get_or, Some, sym, ap, ◌∙◌, subst}
use Rattle.std.proofs.lemmas.List.{take_all, take_more}
use Rattle.fm_nest.specs.declared.place.Place.{Place}
use Rattle.fm_program.specs.Parts.{process_program}
use Rattle.fm_strand.specs.Course.{end_place, start_place}
use Rattle.fm_play.specs.Places.{HasLevelsOf, met_place}
use Rattle.fm_play.proofs.Meeting.{later_levels, latest_meets, latest_of, latest_of-append, levels_of_end, none_meets}
use Rattle.fm_play.proofs.PlanFacts.{ends_in_levels, starts_where_ends_meet}
use Rattle.fm_play.proofs.EndLemmas.{known_end, length-ends, map-push, predecessor_less}
use Rattle.fm_play.proofs.ends.start_from.Goals as goal

pub end_at-end-requires : goal.end_at-end-requires
end_at-end-requires c =
    let p = c.args.plan.now in
    let k = c.loop-before.before-index in
    let inside : k < length (process_program p c.args.process).predecessors =
    rw (← c.predecessors-before-items.ensures) c.loop-before-test.true in
    let less = predecessor_less p c.args.process k c.requires.fits inside in
    rw (c.requires.ends, length-ends, c.predecessors-before-items.ensures) less

pub met-requires : goal.met-requires
met-requires c =
    let p = c.args.plan.now in
    let k = c.loop-before.before-index in
    let inside : k < length (process_program p c.args.process).predecessors =
    rw (← c.predecessors-before-items.ensures) c.loop-before-test.true in
    let end = known_end p c.args.process k c.args.ends.now c.predecessors-before-items.result.now c.end_at-end.result c.requires.fits
    c.requires.ends c.predecessors-before-items.ensures inside c.end_at-end.ensures in
    levels_of_end c.loop-before.latest c.end_at-end.result (start_place p c.args.process) c.loop-before.invariant.levels
    (subst (λ (e : Place). HasLevelsOf e (start_place p c.args.process)) (sym end)
    (ends_in_levels p c.args.process k c.requires.fits c.requires.process inside))

pub loop-before-preserved : goal.loop-before-preserved
loop-before-preserved c =
    let p = c.args.plan.now in
    let k = c.loop-before.before-index in
    let qs = (process_program p c.args.process).predecessors in
    let inside : k < length qs = rw (← c.predecessors-before-items.ensures) c.loop-before-test.true in
    let end = known_end p c.args.process k c.args.ends.now c.predecessors-before-items.result.now c.end_at-end.result c.requires.fits
    c.requires.ends c.predecessors-before-items.ensures inside c.end_at-end.ensures in
    let before = map (end_place p) (take k qs) in
    let more : map (end_place p) (take (k + 1) qs) ≡ before ++ c.end_at-end.result ∷ [] =
    ap (map (end_place p)) (take_more qs k 0 inside) ∙ map-push (end_place p) (take k qs) (get_or qs k 0)
    ∙ ap (λ (e : Place). before ++ e ∷ []) (sym end) in
    record {
      latest =
          ap (λ x. Some x) (c.met.ensures ∙ ap (λ o. met_place o c.end_at-end.result) c.loop-before.invariant.latest)
          ∙ sym (ap latest_of more ∙ latest_of-append before c.end_at-end.result);
      levels = subst (λ (e : Place). HasLevelsOf e (start_place p c.args.process)) (sym c.met.ensures)
          (later_levels c.loop-before.latest c.end_at-end.result (start_place p c.args.process) c.loop-before.invariant.levels
          (subst (λ (e : Place). HasLevelsOf e (start_place p c.args.process)) (sym end)
          (ends_in_levels p c.args.process k c.requires.fits c.requires.process inside)));
    }

pub returns-in-Some : goal.returns-in-Some
returns-in-Some c =
    let p = c.args.plan.now in
    let qs = (process_program p c.args.process).predecessors in
    let to_end : length qs ≤ c.loop-before.before-index = rw (← c.predecessors-before-items.ensures) c.loop-before-test.false in
    let all = ap (λ (xs : List ℕ). latest_of (map (end_place p) xs)) (take_all c.loop-before.before-index qs to_end) in
    let latest = sym all ∙ sym c.loop-before.invariant.latest ∙ c.in-Some.is in
    sym (latest_meets (map (end_place p) qs) c.in-Some.place latest)
    ∙ sym (starts_where_ends_meet p c.args.process c.requires.fits c.requires.process)

pub returns-in-None : goal.returns-in-None
returns-in-None c =
    let p = c.args.plan.now in
    let qs = (process_program p c.args.process).predecessors in
    let to_end : length qs ≤ c.loop-before.before-index = rw (← c.predecessors-before-items.ensures) c.loop-before-test.false in
    let all = ap (λ (xs : List ℕ). latest_of (map (end_place p) xs)) (take_all c.loop-before.before-index qs to_end) in
    let none = sym all ∙ sym c.loop-before.invariant.latest ∙ c.in-None.is in
    c.first.ensures ∙ sym (none_meets (map (end_place p) qs) none)
    ∙ sym (starts_where_ends_meet p c.args.process c.requires.fits c.requires.process)
