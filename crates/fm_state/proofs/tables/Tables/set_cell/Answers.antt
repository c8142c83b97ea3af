-- What the seats hold is counted again.
use Rattle.std.proofs.Common.{◌≡◌, ◌<◌, length, sym, ◌∙◌, subst, arith, length-set}
use Rattle.std.proofs.lemmas.List.{get_or_default}
use Rattle.fm_core.specs.State.{cell_in, unborn}
use Rattle.fm_state.specs.Stored.{Stored}
use Rattle.fm_state.proofs.Holding.{moved_fits, moved_counts}
use Rattle.fm_state.proofs.tables.Tables.set_cell.Goals as goal

pub begin_hold-requires : goal.begin_hold-requires
begin_hold-requires c =
    let m = c.self.inside in
    let kept = c.self.invariant in
    let within : c.args.process < length m.cells.items =
    subst (λ (m : Stored). c.args.process < length m.state.cells) (sym c.self.view_is) c.requires in
    let is : c.index-from.result.now ≡ cell_in m.cells.items c.args.process =
    c.index-from.ensures ∙ get_or_default m.cells.items c.args.process c.index-from.result.now unborn within in
    λ s there.
    let seat : s < length m.holds.items = omega (arith, there, c.end_hold.ensures.seats) in
    moved_fits m.cells.items c.args.process s _ _ c.index-from.result.now c.args.next within is (kept.counted s seat)
    (c.end_hold.ensures.counts s seat) kept.few

pub invariant_of-self : goal.invariant_of-self
invariant_of-self c =
    let m = c.self.inside in
    let kept = c.self.invariant in
    let within : c.args.process < length m.cells.items =
    subst (λ (m : Stored). c.args.process < length m.state.cells) (sym c.self.view_is) c.requires in
    let is : c.index-from.result.now ≡ cell_in m.cells.items c.args.process =
    c.index-from.ensures ∙ get_or_default m.cells.items c.args.process c.index-from.result.now unborn within in
    let same = length-set m.cells.items c.args.process c.args.next in
    record {
      swept = rw same kept.swept;
      marked = kept.marked ∙ sym same;
      few = rw same kept.few;
      few_seats = kept.few_seats;
      seats = c.begin_hold.ensures.seats ∙ c.end_hold.ensures.seats ∙ kept.seats;
      counted = λ s there.
          let mid : s < length c.end_hold.new.holds.items = omega (arith, there, c.begin_hold.ensures.seats) in
          let seat : s < length m.holds.items = omega (arith, mid, c.end_hold.ensures.seats) in
          moved_counts m.cells.items c.args.process s _ _ c.index-from.result.now c.args.next within is (kept.counted s seat)
          (c.end_hold.ensures.counts s seat) _ (c.begin_hold.ensures.counts s mid);
    }
