-- The events before this one lie within the lead.
use Rattle.std.proofs.Common.{◌≡◌, ℕ, ◌+◌, ◌<◌, false}
use Rattle.std.specs.Prelude.{not}
use Rattle.fm_line.specs.Line.{upper}
use Rattle.fm_core.specs.Floors.{within}
use Rattle.fm_hall.proofs.refusals.is_above_lead.Given as goal

abbrev pub invariant-loop-index : goal.invariant-loop-index
invariant-loop-index l = (q : ℕ) → q < l.index → not (within l.floor l.lead (upper l.own (l.from + q))) ≡ false
