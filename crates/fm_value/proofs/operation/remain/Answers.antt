-- What the floor of a quotient leaves.
use Rattle.std.proofs.Common.{◌≡◌, w64, SFits, refl}
use Rattle.std.specs.Prelude.{pos}
use Rattle.std.proofs.Math.Facts.{to_z-of_z}
use Rattle.fm_value.specs.Operation.{floor_div}
use Rattle.fm_value.proofs.Floors.{left_is, small}
use Rattle.fm_value.proofs.operation.remain.Goals as goal

pub overflow_mul-result : goal.overflow_mul-result
overflow_mul-result c =
    let q : SFits w64 c.divide.result = record { sfits = c.divide.type_inv } in
    let is : c.divide.result ≡ floor_div c.args.x c.args.y = rw (to_z-of_z c.ranges.x, to_z-of_z c.ranges.y) at c.divide.ensures in
    rw (to_z-of_z c.ranges.y, to_z-of_z q, is)
    (small c.args.x c.args.y c.requires.left c.requires.right (λ e. c.if-y-eq0.false (rw e refl))).product

pub overflow_sub-result : goal.overflow_sub-result
overflow_sub-result c =
    let q : SFits w64 c.divide.result = record { sfits = c.divide.type_inv } in
    let is : c.divide.result ≡ floor_div c.args.x c.args.y = rw (to_z-of_z c.ranges.x, to_z-of_z c.ranges.y) at c.divide.ensures in
    let s = small c.args.x c.args.y c.requires.left c.requires.right (λ e. c.if-y-eq0.false (rw e refl)) in
    rw (to_z-of_z c.ranges.x, to_z-of_z c.ranges.y, to_z-of_z q, is, to_z-of_z s.product) s.left

pub returns-else-y-eq0 : goal.returns-else-y-eq0
returns-else-y-eq0 c =
    let q : SFits w64 c.divide.result = record { sfits = c.divide.type_inv } in
    let is : c.divide.result ≡ floor_div c.args.x c.args.y = rw (to_z-of_z c.ranges.x, to_z-of_z c.ranges.y) at c.divide.ensures in
    let some : c.args.y ≡ pos 0 → ⊥ = λ e. c.if-y-eq0.false (rw e refl) in
    let s = small c.args.x c.args.y c.requires.left c.requires.right some in
    rw (to_z-of_z c.ranges.x, to_z-of_z c.ranges.y, to_z-of_z q, is, to_z-of_z s.product, to_z-of_z s.left)
    (left_is c.args.x c.args.y some)
