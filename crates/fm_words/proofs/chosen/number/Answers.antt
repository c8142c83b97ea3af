use Rattle.std.proofs.Common.{sym, arith}
use Rattle.fm_words.proofs.Numbers.{number_in-unspelt, number_in-within}
use Rattle.fm_words.proofs.chosen.number.Goals as goal

pub returns-in_default-clause-is : goal.returns-in_default-clause-is
returns-in_default-clause-is c = sym (number_in-unspelt c.args.low c.args.high c.args.text.now c.in_default.ensures.value.0)

pub returns-clause-is : goal.returns-clause-is
returns-clause-is c =
    sym (number_in-within c.args.low c.args.high c.in-Ok.n c.args.text.now c.in-Ok.ensures.value.0 (omega arith) (omega arith))
