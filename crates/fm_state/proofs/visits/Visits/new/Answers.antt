-- The first round.
use Rattle.std.proofs.Common.{ap, map, ◌∙◌}
use Rattle.std.specs.Prelude.{nat_eq}
use Rattle.fm_state.proofs.Marks.{none_wiped, round_opens}
use Rattle.fm_state.proofs.visits.Visits.new.Goals as goal

pub invariant_of-result : goal.invariant_of-result
invariant_of-result c =
    round_opens c.args.processes c.in_ok-marks.marks.items c.ranges.processes.fits
    (c.in_ok-marks.ensures.items_if_clones_equal (λ y same. same))

pub returns : goal.returns
returns c =
    ap (map (nat_eq 1)) (c.in_ok-marks.ensures.items_if_clones_equal (λ y same. same)) ∙ none_wiped c.args.processes
