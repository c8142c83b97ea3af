use Rattle.std.proofs.Common.{arith}
use Rattle.fm_outline.proofs.GreatestLemmas.{greatest_step, greatest_end}
use Rattle.fm_outline.proofs.tables.greatest.Goals as goal

pub loop-entry-preserved : goal.loop-entry-preserved
loop-entry-preserved c =
    greatest_step c.args.entries.now c.loop-entry.entry-index _ c.loop-entry-test.true c.loop-entry.invariant c.max-most.ensures

pub returns : goal.returns
returns c = greatest_end c.args.entries.now c.loop-entry.entry-index (omega arith) c.loop-entry.invariant
