-- What stands is within its limits, and the parts are all that the record is made of.
use Rattle.std.proofs.Common.{sym, ◌∙◌, arith}
use Rattle.fm_record.proofs.HeadLemmas.{header_limits, header_parts}
use Rattle.fm_record.proofs.head.header.Goals as goal

pub returns-clause-limits : goal.returns-clause-limits
returns-clause-limits c =
    header_limits c.args.bytes.now c.from.result c.from-2.result c.from-3.result c.four_at.result c.from.ensures c.from-2.ensures
    (c.from-3.ensures ∙ c.four_at-2.ensures.value) c.four_at.ensures.value (sym c.bad_field.ensures ∙ c.in_default.is)
    c.requires

pub returns-clause-parts : goal.returns-clause-parts
returns-clause-parts c =
    header_parts c.args.bytes.now c.from.result c.from-2.result c.from-3.result c.four_at.result c.from.ensures c.from-2.ensures
    (c.from-3.ensures ∙ c.four_at-2.ensures.value) c.four_at.ensures.value (sym c.bad_field.ensures ∙ c.in_default.is)
    (λ i. omega (arith, c.type_inv.bytes i))
