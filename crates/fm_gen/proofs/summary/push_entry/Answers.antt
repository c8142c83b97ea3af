use Rattle.std.proofs.Common.{length, ap, length-append, arith}
use Rattle.fm_gen.proofs.DigitLemmas.{decimal_short}
use Rattle.fm_gen.proofs.summary.push_entry.Goals as goal

pub returns-clause-len : goal.returns-clause-len
returns-clause-len c =
    omega (
      arith,
      c.push_str.ensures.len,
      simp length-append at (ap length c.push_number.ensures),
      decimal_short c.args.number (omega arith),
    )
