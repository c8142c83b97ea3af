use Rattle.std.proofs.Common.{◌≡◌, ◌+◌, ◌/◌, ◌%◌, ◌∷◌, ◌++◌, [], length, decimal, ◌∙◌, sym, ap, arith, append_assoc}
use Rattle.fm_tell.proofs.Digits.{one_digit, length-one_digit, more_digits, length-more_digits}
use Rattle.fm_tell.proofs.telling.+push_decimal.Goals as goal

pub push-requires : goal.push-requires
push-requires t c = (omega arith, omega (arith, c.requires, length-one_digit c.args.number c.if-number-lt10.true))

pub push_decimal-requires : goal.push_decimal-requires
push_decimal-requires t c =
    let more : length (decimal c.args.number) ≡ length (decimal (c.args.number / 10)) + 1 =
    length-more_digits c.args.number c.if-number-lt10.false (omega arith)
    in (omega arith, omega (arith, c.requires, more))

pub push-requires-else-number-lt10 : goal.push-requires-else-number-lt10
push-requires-else-number-lt10 t c =
    let more : length (decimal c.args.number) ≡ length (decimal (c.args.number / 10)) + 1 =
    length-more_digits c.args.number c.if-number-lt10.false (omega arith)
    in (omega arith, omega (arith, c.requires, c.push_decimal.ensures.len, more))

pub returns-then-number-lt10-clause-items : goal.returns-then-number-lt10-clause-items
returns-then-number-lt10-clause-items t c =
    c.push.ensures.items ∙ ap (λ z. c.args.text.now.items ++ z) (sym (one_digit c.args.number c.if-number-lt10.true))

pub returns-then-number-lt10-clause-len : goal.returns-then-number-lt10-clause-len
returns-then-number-lt10-clause-len t c =
    omega (arith, c.push.ensures.len, length-one_digit c.args.number c.if-number-lt10.true)

pub returns-else-number-lt10-clause-items : goal.returns-else-number-lt10-clause-items
returns-else-number-lt10-clause-items t c =
    c.push-else-number-lt10.ensures.items ∙ ap (λ z. z ++ (48 + c.args.number % 10) ∷ []) c.push_decimal.ensures.items
    ∙ append_assoc c.args.text.now.items (decimal (c.args.number / 10)) ((48 + c.args.number % 10) ∷ [])
    ∙ ap (λ z. c.args.text.now.items ++ z) (sym (more_digits c.args.number c.if-number-lt10.false (omega arith)))

pub returns-else-number-lt10-clause-len : goal.returns-else-number-lt10-clause-len
returns-else-number-lt10-clause-len t c =
    omega (
      arith,
      c.push-else-number-lt10.ensures.len,
      c.push_decimal.ensures.len,
      length-more_digits c.args.number c.if-number-lt10.false (omega arith),
    )
