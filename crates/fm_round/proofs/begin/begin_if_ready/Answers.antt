use Rattle.std.proofs.Common.{◌<◌, length, get_or, refl, sym, ap, ◌∙◌, arith}
use Rattle.fm_round.specs.Lanes.{no_lane}
use Rattle.fm_round.specs.declared.lane.Lane.{Lane}
use Rattle.fm_round.proofs.Running.{any_default}
use Rattle.fm_round.proofs.Starting.{begins_one, no_strand}
use Rattle.fm_round.proofs.Watched.{begins_nothing}
use Rattle.fm_round.proofs.begin.begin_if_ready.Goals as goal

pub returns-clause-begins : goal.returns-clause-begins
returns-clause-begins c =
    let there : c.args.process < length c.args.lanes.now = omega arith in
    let at = any_default c.args.lanes.now c.args.process c.index-lanes-process-2.result no_lane there in
    let was = any_default c.args.lanes.now c.args.process c.index-lanes-process.result no_lane there in
    let unborn = sym (ap (λ (s : Lane). s.strand) was)
    ∙ no_strand (get_or c.args.lanes.now c.args.process c.index-lanes-process.result).strand (sym c.is_some.ensures ∙ c.if-is_some.false) in
    begins_one c.args.plan.now c.args.lanes.now c.args.process there c.begin.result _ c.requires.processes.lanes unborn
    c.begin.ensures.course c.begin.ensures.process c.begin.ensures.rest c.begin.ensures.steps refl
    (ap (λ (s : Lane). s.ended) at) (ap (λ (s : Lane). s.outbox) at)

pub returns-then-is_some-clause-begins : goal.returns-then-is_some-clause-begins
returns-then-is_some-clause-begins c =
    begins_nothing c.args.plan.now c.args.process c.args.lanes.now c.requires.processes.lanes

pub returns-in-Some-clause-begins : goal.returns-in-Some-clause-begins
returns-in-Some-clause-begins c =
    begins_nothing c.args.plan.now c.args.process c.args.lanes.now c.requires.processes.lanes

pub start_of-place-requires-clause-processes : goal.start_of-place-requires-clause-processes
start_of-place-requires-clause-processes c = c.requires.processes

pub awaited-requires-clause-fits : goal.awaited-requires-clause-fits
awaited-requires-clause-fits c = c.requires.processes.fits

pub awaited-requires-clause-count : goal.awaited-requires-clause-count
awaited-requires-clause-count c = c.requires.processes.count
