use Rattle.std.proofs.Common.{◌*ℤ◌, w64, SFits, arith}
use Rattle.std.proofs.Math.Facts.{to_z-of_z}
use Rattle.std.proofs.lemmas.Grind.{common_steps}
use Rattle.fm_value.proofs.operation.multiply.Goals as goal

pub returns : goal.returns
returns c =
    let left : SFits w64 c.args.x = c.ranges.x in
    let right : SFits w64 c.args.y = c.ranges.y in
    let fits : SFits w64 (c.args.x *ℤ c.args.y) = grind (arith, common_steps) in
    rw (to_z-of_z left, to_z-of_z right) (to_z-of_z fits)
