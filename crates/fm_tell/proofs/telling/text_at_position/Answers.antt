use Rattle.std.proofs.Common.{◌≤◌, arith}
use Rattle.arrayvec.specs.ArrayVec.{array_vec_len}
use Rattle.fm_tell.proofs.Digits.{length-decimal_32, length-decimal_8}
use Rattle.fm_tell.proofs.telling.text_at_position.Goals as goal

pub push_decimal-requires : goal.push_decimal-requires
push_decimal-requires c = grind (arith, c.push_bytes.ensures.len, c.requires, length-decimal_32 c.args.position (omega arith))

pub push_bytes-requires-2 : goal.push_bytes-requires-2
push_bytes-requires-2 c =
    grind (arith, c.push_decimal.ensures.len, c.push_bytes.ensures.len, c.requires, length-decimal_32 c.args.position (omega arith))

-- the text before the number
before_number : (c : goal.After-from) → array_vec_len c.push_bytes-2.new.text ≤ 45
before_number c =
    let begun : array_vec_len c.push_decimal.new.text ≤ 38 =
    grind (arith, c.push_decimal.ensures.len, c.push_bytes.ensures.len, c.requires, length-decimal_32 c.args.position (omega arith))
    in omega (arith, begun, c.push_bytes-2.ensures.len)

pub push_decimal-requires-2 : goal.push_decimal-requires-2
push_decimal-requires-2 c = omega (arith, before_number c, c.from.ensures, length-decimal_8 c.from.result (omega (arith, c.from.ensures)))

pub push_bytes-requires-3 : goal.push_bytes-requires-3
push_bytes-requires-3 c =
    let begun : array_vec_len c.push_decimal.new.text ≤ 38 =
    grind (arith, c.push_decimal.ensures.len, c.push_bytes.ensures.len, c.requires, length-decimal_32 c.args.position (omega arith))
    in
    omega (
      arith,
      begun,
      c.push_bytes-2.ensures.len,
      c.push_decimal-2.ensures.len,
      length-decimal_8 c.from.result (omega (arith, c.from.ensures)),
    )
