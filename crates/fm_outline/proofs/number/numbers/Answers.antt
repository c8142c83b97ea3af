use Rattle.std.proofs.Common.{arith}
use Rattle.fm_grammar.specs.declared.number.Number.{Number}
use Rattle.fm_outline.proofs.MapLemmas.{mapped_more, mapped_end}
use Rattle.fm_outline.proofs.number.numbers.Goals as goal

pub loop-number-preserved : goal.loop-number-preserved
loop-number-preserved c =
    mapped_more Number.value c.args.list.now c.loop-number.number-index _ c.loop-number.entries.items
    c.push.new.self.items c.loop-number-test.true c.loop-number.invariant c.in_ok-push.ensures.items

pub returns : goal.returns
returns c =
    mapped_end Number.value c.args.list.now c.loop-number.number-index c.loop-number.entries.items (omega arith)
    c.loop-number.invariant
