-- Where the two shapes of a large score put a position past both.
use Rattle.std.proofs.Common.{◌≡◌, ◌+◌, ◌-◌, ◌*◌, ◌/◌, ◌≤◌, ℕ, true, arith, min, max}
use Rattle.std.specs.Prelude.{nat_le}
use Rattle.std.proofs.lemmas.Bool.{le-leb}
use Rattle.fm_tick.specs.Quotient.{flat_of, sloped_of}
use Rattle.fm_tick.specs.declared.stretch.TheConstants.{MAX_STRETCH}
use Rattle.fm_warp.specs.Deformation.{at}
use Rattle.fm_large.proofs.Clear.{parts_a, parts_b}

thousandths : (stretch : ℕ) → 500 ≤ stretch → stretch ≤ 1499 → min MAX_STRETCH (max 1 stretch) ≡ stretch
thousandths stretch low high = omega arith

slope_ticks : (stretch : ℕ) → sloped_of 1920 1920 1000 stretch ≡ 960 + 24 * stretch / 25
unfolding sloped_of
slope_ticks stretch = omega arith

flat_ticks : (stretch : ℕ) → flat_of 3840 stretch ≡ 96 * stretch / 25
unfolding flat_of
flat_ticks stretch = omega arith

-- behind the first
pub at_a : (stretch x : ℕ) → 500 ≤ stretch → stretch ≤ 1499 → 5760 ≤ x → at (parts_a stretch) x
    ≡ 24 * stretch / 25 + 96 * stretch / 25 + x - 4680
at_a stretch x low high past =
    let first : min (x - 0) 1920 ≡ 1920 = omega arith in
    let behind : nat_le 1920 x ≡ true = le-leb 1920 x (omega arith) in
    let third : min (x - 1920) 3840 ≡ 3840 = omega arith in
    rw (thousandths stretch low high, first, behind, third, slope_ticks stretch, flat_ticks stretch) (omega arith)

-- behind the second
pub at_b : (x : ℕ) → 7680 ≤ x → at parts_b x ≡ x + 4080
unfolding flat_of
at_b x past =
    let paused : nat_le 0 x ≡ true = le-leb 0 x (omega arith) in
    let second : min (x - 0) 7680 ≡ 7680 = omega arith in
    rw (paused, second) (omega arith)
