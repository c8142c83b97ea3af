use Rattle.std.proofs.Common.{arith}
use Rattle.fm_warp.proofs.warp.Warp.seek.Goals as goal

pub loop-walk-init : goal.loop-walk-init
loop-walk-init c =
    let reaches = c.new-walk.ensures c.self.inside.parts.items c.args.x in
    let one_each = c.self.invariant.one_each in
    record {
      reaches = reaches;
      ordered = omega (arith, reaches.within);
      within = omega arith;
      there = λ below. absurd (omega arith);
    }
