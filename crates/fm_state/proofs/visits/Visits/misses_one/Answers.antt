-- Some process was not visited exactly where the count of those is above 0.
use Rattle.std.proofs.Common.{false, ap, ◌∙◌, length, List, Bool, map}
use Rattle.std.specs.Prelude.{not, nat_eq, slice_index_or}
use Rattle.fm_core.specs.Numbers.{any_below}
use Rattle.fm_state.proofs.Counts.{counted_is}
use Rattle.fm_state.proofs.visits.Visits.misses_one.Goals as goal

pub returns : goal.returns
returns c =
    let m = c.self.inside in
    counted_is not false m.missing (map (nat_eq m.round) m.marks.items) c.self.invariant.counted
    ∙ ap (λ (visited : List Bool). any_below (length visited) (λ p. not (slice_index_or visited p false))) c.self.view_is
