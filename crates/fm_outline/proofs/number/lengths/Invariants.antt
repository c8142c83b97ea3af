use Rattle.std.proofs.Common.{◌≡◌, take, map}
use Rattle.fm_meaning.specs.Resolve.{length_ticks}
use Rattle.fm_outline.proofs.number.lengths.Given as goal

-- the entries so far
abbrev pub invariant-loop-length : goal.invariant-loop-length
invariant-loop-length l = l.entries.items ≡ map (length_ticks l.whole) (take l.length-index l.list)
