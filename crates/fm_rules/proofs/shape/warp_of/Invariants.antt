use Rattle.std.proofs.Common.{◌≡◌, take, map}
use Rattle.fm_meaning.specs.Resolve.{part_of}
use Rattle.fm_rules.proofs.shape.warp_of.Given as goal

-- the parts so far
abbrev pub invariant-loop-part : goal.invariant-loop-part
invariant-loop-part l = l.warp ≡ map (part_of l.whole) (take l.part-index l.parts)
