-- At the opening no seat holds a process.
use Rattle.std.proofs.Common.{◌≡◌, ◌∙◌, ℕ, length, false, refl, sym, ap, length-set}
use Rattle.std.proofs.lemmas.List.{length-replicate, length-map}
use Rattle.fm_core.specs.State.{no_desk, unborn}
use Rattle.fm_state.specs.Stored.{desk_of}
use Rattle.fm_state.proofs.Holding.{opening_counts}
use Rattle.fm_state.proofs.tables.Tables.new.Goals as goal

pub invariant_of-result : goal.invariant_of-result
invariant_of-result c =
    let a = c.args in
    let cells = c.in_ok-cells.ensures.items_if_clones_equal (λ y same. same) in
    let holds = c.in_ok-holds.ensures.items_if_clones_equal (λ y same. same) in
    let size : length c.in_ok-cells.cells.items ≡ a.processes = ap length cells ∙ length-replicate a.processes unborn in
    let desks : length c.in_ok-desks.desks.items ≡ a.seats =
    sym (length-map c.in_ok-desks.desks.items desk_of) ∙ ap length c.in_ok-desks.ensures.desks ∙ length-replicate a.seats no_desk in
    record {
      swept = rw (length-set, size) c.in_ok-desks.ensures.sweeps;
      marked = ap length c.in_ok-visited.ensures ∙ length-replicate a.processes false ∙ sym size
          ∙ sym (length-set c.in_ok-cells.cells.items 0 _);
      few = rw (length-set, size) c.ranges.processes.fits;
      few_seats = rw desks c.ranges.seats.fits;
      seats = ap length holds ∙ length-replicate {A = ℕ} a.seats 0 ∙ sym desks;
      counted = opening_counts c.in_ok-cells.cells.items _ c.in_ok-holds.holds.items a.processes a.seats cells holds c.requires refl;
    }
