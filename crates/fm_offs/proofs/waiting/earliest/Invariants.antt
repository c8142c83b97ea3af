use Rattle.std.proofs.Common.{◌≤◌, ◌<◌, ℕ, length}
use Rattle.fm_offs.specs.Stack.{tick_at}
use Rattle.fm_offs.proofs.waiting.earliest.Given as goal

abbrev pub invariant-loop-index : goal.invariant-loop-index
invariant-loop-index l = record {
  there : l.first < length l.offs;
  passed : l.first < l.index;
  first : (k : ℕ) → k < l.first → tick_at l.offs l.first < tick_at l.offs k;
  least : (k : ℕ) → k < l.index → tick_at l.offs l.first ≤ tick_at l.offs k;
}
