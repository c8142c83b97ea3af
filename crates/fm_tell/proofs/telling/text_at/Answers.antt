use Rattle.std.proofs.Common.{◌≤◌, arith}
use Rattle.arrayvec.specs.ArrayVec.{array_vec_len}
use Rattle.fm_tell.proofs.Digits.{length-decimal_32, length-decimal_8}
use Rattle.fm_tell.proofs.telling.text_at.Goals as goal

pub push_decimal-requires : goal.push_decimal-requires
push_decimal-requires c = grind (arith, c.push_bytes.ensures.len, length-decimal_32 c.args.line (omega arith))

pub push_bytes-requires-2 : goal.push_bytes-requires-2
push_bytes-requires-2 c =
    grind (arith, c.push_decimal.ensures.len, c.push_bytes.ensures.len, length-decimal_32 c.args.line (omega arith))

pub push_decimal-requires-2 : goal.push_decimal-requires-2
push_decimal-requires-2 c =
    let begun : array_vec_len c.push_decimal.new.text ≤ 34 =
    grind (arith, c.push_decimal.ensures.len, c.push_bytes.ensures.len, length-decimal_32 c.args.line (omega arith))
    in omega (arith, begun, c.push_bytes-2.ensures.len, length-decimal_32 c.args.column (omega arith))

pub push_bytes-requires-3 : goal.push_bytes-requires-3
push_bytes-requires-3 c =
    let begun : array_vec_len c.push_decimal.new.text ≤ 34 =
    grind (arith, c.push_decimal.ensures.len, c.push_bytes.ensures.len, length-decimal_32 c.args.line (omega arith))
    in omega (arith, begun, c.push_bytes-2.ensures.len, c.push_decimal-2.ensures.len, length-decimal_32 c.args.column (omega arith))

-- the text before the number
before_number : (c : goal.After-from) → array_vec_len c.push_bytes-3.new.text ≤ 52
before_number c =
    let begun : array_vec_len c.push_decimal.new.text ≤ 34 =
    grind (arith, c.push_decimal.ensures.len, c.push_bytes.ensures.len, length-decimal_32 c.args.line (omega arith))
    in
    omega (
      arith,
      begun,
      c.push_bytes-2.ensures.len,
      c.push_decimal-2.ensures.len,
      c.push_bytes-3.ensures.len,
      length-decimal_32 c.args.column (omega arith),
    )

pub push_decimal-requires-3 : goal.push_decimal-requires-3
push_decimal-requires-3 c = omega (arith, before_number c, c.from.ensures, length-decimal_8 c.from.result (omega (arith, c.from.ensures)))

pub push_bytes-requires-4 : goal.push_bytes-requires-4
push_bytes-requires-4 c =
    let begun : array_vec_len c.push_decimal.new.text ≤ 34 =
    grind (arith, c.push_decimal.ensures.len, c.push_bytes.ensures.len, length-decimal_32 c.args.line (omega arith))
    in
    omega (
      arith,
      begun,
      c.push_bytes-2.ensures.len,
      c.push_decimal-2.ensures.len,
      c.push_bytes-3.ensures.len,
      c.push_decimal-3.ensures.len,
      length-decimal_32 c.args.column (omega arith),
      length-decimal_8 c.from.result (omega (arith, c.from.ensures)),
    )
