-- How many processes a seat holds.
use Rattle.std.proofs.Common.{◌≡◌, ℕ, ◌+◌, ◌*◌, ◌^◌, ◌<◌, List, length, set, replicate, Bool, false, sym, ap, ◌∙◌, arith, length-set}
use Rattle.std.specs.Prelude.{nat_eq, ◌&&◌}
use Rattle.std.specs.List.{count_by}
use Rattle.std.proofs.lemmas.List.Folds.{sum_by-replicate}
use Rattle.std.proofs.lemmas.List.{length-replicate}
use Rattle.std.proofs.lemmas.List.Sums.{sum_by-set, count_by-le-length}
use Rattle.fm_core.specs.State.{cell_in, held_by, unborn}
use Rattle.fm_core.specs.Tags.{is_held}
use Rattle.fm_core.specs.declared.cell.Cell.{Cell}
use Rattle.fm_core.proofs.Elements.{same_all}
use Rattle.fm_state.specs.Stored.{AreCounted, hold}

none_held : (s n : ℕ) (root : Cell) → 0 < n → held_by s root ≡ false → count_by (held_by s) (set (replicate n unborn) 0 root) ≡ 0
none_held s n root some free =
    let all = sum_by-replicate (hold s) n unborn in
    let one = sum_by-set (hold s) (replicate n unborn) 0 root unborn (rw length-replicate some) in
    let first = same_all n 0 unborn in
    by_sums (count_by (held_by s) (set (replicate n unborn) 0 root)) (count_by (held_by s) (replicate n unborn)) n all
    (rw (free, first) at one)
  where
    by_sums : (new old n : ℕ) → old ≡ n * 0 → new + 0 ≡ old + 0 → new ≡ 0
    by_sums new old n all one = omega arith

-- at the opening no seat holds a process
pub opening_counts : (cs : List Cell) (root : Cell) (holds : List ℕ) (n seats : ℕ) → cs ≡ replicate n unborn
    → holds ≡ replicate seats 0 → 0 < n → is_held root.tag ≡ false → AreCounted (set cs 0 root) holds
opening_counts cs root holds n seats cells all some free s there =
    rw (cells, all) (same_all seats s 0 ∙ sym (none_held s n root some (ap (λ (b : Bool). b && nat_eq root.seat s) free)))

-- one process changes: what a seat holds falls by what it was and rises by what it is
pub set_hold : (cs : List Cell) (p s : ℕ) (next : Cell) → p < length cs
    → count_by (held_by s) (set cs p next) + hold s (cell_in cs p) ≡ count_by (held_by s) cs + hold s next
set_hold cs p s next within = sum_by-set (hold s) cs p next unborn within

module _ (cs : List Cell) (p s old mid : ℕ) (from next : Cell) (within : p < length cs) (is : from ≡ cell_in cs p)
    (counted : old ≡ count_by (held_by s) cs) (ended : mid + hold s from ≡ old) where
  moved : mid + hold s next ≡ count_by (held_by s) (set cs p next)
  moved = omega (arith, set_hold cs p s next within, ap (hold s) is, counted, ended)

  -- where a process changes, the count is not above the number of processes
  pub moved_fits : length cs < 2 ^ 32 → mid + hold s next < 2 ^ 32
  moved_fits few = omega (arith, few, moved, count_by-le-length (held_by s) (set cs p next), length-set cs p next)

  -- and it counts what the seat holds then
  pub moved_counts : (new : ℕ) → new ≡ mid + hold s next → new ≡ count_by (held_by s) (set cs p next)
  moved_counts new begun = begun ∙ moved
