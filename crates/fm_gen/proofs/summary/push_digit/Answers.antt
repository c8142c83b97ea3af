use Rattle.std.proofs.Common.{◌≡◌, length, ap, lit<, arith}
use Rattle.std.specs.Prelude.{encode_utf8}
use Rattle.std.proofs.lemmas.Str.{encode_ascii}
use Rattle.fm_gen.proofs.summary.push_digit.Goals as goal

pub push-requires : goal.push-requires
push-requires c =
    let one : length (encode_utf8 c.from.result) ≡ 1 =
    ap length (encode_ascii c.from.result (omega arith)) in
    (lit< tt, omega arith)
