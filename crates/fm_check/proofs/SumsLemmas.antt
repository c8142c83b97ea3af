-- Totals up to the ceiling, from those of parts.
use Rattle.std.proofs.Common.{◌≡◌, ℕ, ◌<◌, ◌≤◌, refl, ap, arith}
use Rattle.std.proofs.lemmas.Bool.{lt-leb, le-leb}
use Rattle.std.specs.Prelude.{List}
use Rattle.fm_tick.specs.declared.tick.TheConstants.{MAX_TICK}
use Rattle.fm_warp.specs.declared.part.Part.{Part}
use Rattle.fm_warp.specs.Deformation.{at}
use Rattle.fm_meaning.specs.Bounds.{Totals, totals, warped_length}
use Rattle.fm_check.specs.declared.totals.sums.Sums.{Sums}
use Rattle.fm_check.specs.declared.totals.sums.TheConstants.{CEILING}
use Rattle.fm_check.specs.Saturation.{capped, saturated}

-- totals by their columns
abbrev pub sums : (processes operations length events steps : ℕ) → Sums
sums p o l n s = record { processes = p; operations = o; length = l; events = n; steps = s }

-- a length past the last tick stays there
pub warped_above : (length n : ℕ) (parts : List Part) → length ≡ capped n → MAX_TICK < length
    → CEILING ≡ capped (warped_length parts n)
unfolding capped
warped_above length n parts is above = rw (lt-leb n MAX_TICK (omega arith)) (omega arith)

-- a length in time
pub warped_within : (length n : ℕ) (parts : List Part) → length ≡ capped n → length ≤ MAX_TICK
    → capped (at parts length) ≡ capped (warped_length parts n)
unfolding capped
warped_within length n parts is within =
    let same : length ≡ n = omega arith in
    rw (le-leb n MAX_TICK (omega arith)) (ap (λ x. capped (at parts x)) same)

-- a length up to the ceiling
pub span_saturated : (t span e s : ℕ) → capped t ≡ capped span
    → saturated (totals 0 1 t e s) ≡ saturated (totals 0 1 span e s)
span_saturated t span e s is = ap (λ l. sums (capped 0) (capped 1) l (capped e) (capped s)) is

-- statements under a deformation
pub warp_saturated : {x : Sums} (b : Totals) (parts : List Part) {w : ℕ}
    → x ≡ saturated b → w ≡ capped (warped_length parts b.length)
    → sums x.processes x.operations w x.events x.steps
    ≡ saturated (record b { length = warped_length parts b.length })
warp_saturated b parts e is = cc

-- no statements
pub none_saturated : sums 0 0 0 0 0 ≡ saturated (totals 0 0 0 0 0)
unfolding capped
none_saturated = refl

-- the process behind a fork
pub joined_saturated : sums 1 0 0 0 0 ≡ saturated (totals 1 0 0 0 0)
unfolding capped
joined_saturated = refl

-- for `grind`: a deformation of a length up to the ceiling
pub ruleset warped = (warped_above, warped_within)
