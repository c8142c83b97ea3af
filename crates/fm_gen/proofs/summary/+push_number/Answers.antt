use Rattle.std.proofs.Common.{◌+◌, ◌/◌, ◌%◌, [], ◌∷◌, ◌++◌, length}
use Rattle.std.proofs.Common.{ap, sym, ◌∙◌, length-append, append_assoc, arith}
use Rattle.std.specs.Fmt.{decimal}
use Rattle.std.proofs.lemmas.Fmt.{decimal_step}
use Rattle.fm_gen.proofs.DigitLemmas.{length-decimal_step}
use Rattle.fm_gen.proofs.summary.+push_number.Goals as goal

pub push_digit-requires-else-number-lt10-clause-room :
    goal.push_digit-requires-else-number-lt10-clause-room
push_digit-requires-else-number-lt10-clause-room t c =
    omega (
      arith,
      simp length-append at (ap length c.push_number.ensures),
      length-decimal_step c.args.number (omega arith) (omega arith),
    )

pub returns-else-number-lt10 : goal.returns-else-number-lt10
returns-else-number-lt10 t c =
    let last = (48 + c.args.number % 10) ∷ [] in
    c.push_digit-else-number-lt10.ensures
    ∙ ap (λ text. text ++ last) c.push_number.ensures
    ∙ append_assoc c.args.line.now.bytes (decimal (c.args.number / 10)) last
    ∙ ap (λ text. c.args.line.now.bytes ++ text)
    (sym (decimal_step c.args.number (omega arith) (omega arith)))
