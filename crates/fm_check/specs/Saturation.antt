-- Numbers and totals up to a ceiling that lies above each limit.
use Rattle.std.specs.Prelude.{ℕ, min}
use Rattle.fm_meaning.specs.Bounds.{Totals}
use Rattle.fm_check.specs.declared.totals.sums.Sums.{Sums}
use Rattle.fm_check.specs.declared.totals.sums.TheConstants.{CEILING}

-- a number, or the ceiling where it is greater
unfoldable pub capped : ℕ → ℕ
capped n = min n CEILING

-- totals up to the ceiling
abbrev pub saturated : Totals → Sums
saturated t = record {
  processes = capped t.processes;
  operations = capped t.operations;
  length = capped t.length;
  events = capped t.events;
  steps = capped t.steps;
}
