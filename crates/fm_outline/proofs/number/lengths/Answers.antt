use Rattle.std.proofs.Common.{[], ◌∷◌, ◌++◌, ap, ◌∙◌, arith}
use Rattle.fm_pattern.specs.declared.cursor.TheConstants.{MAX_ENTRIES}
use Rattle.fm_meaning.specs.Ranges.{length_faults, length_spot}
use Rattle.fm_meaning.specs.Resolve.{length_ticks}
use Rattle.fm_outline.proofs.MapLemmas.{mapped_more, mapped_end}
use Rattle.fm_rules.proofs.RangeLemmas.{entry_without}
use Rattle.fm_outline.proofs.number.lengths.Goals as goal

pub ticks-requires : goal.ticks-requires
ticks-requires c =
    entry_without (length_faults c.args.whole) length_spot MAX_ENTRIES c.args.list.now c.requires c.loop-length.length-index _
    c.loop-length-test.true

pub loop-length-preserved : goal.loop-length-preserved
loop-length-preserved c =
    mapped_more (length_ticks c.args.whole) c.args.list.now c.loop-length.length-index _ c.loop-length.entries.items
    c.push.new.self.items c.loop-length-test.true c.loop-length.invariant
    (c.in_ok-push.ensures.items ∙ ap (λ n. c.loop-length.entries.items ++ n ∷ []) c.ticks.ensures.value)

pub returns : goal.returns
returns c =
    mapped_end (length_ticks c.args.whole) c.args.list.now c.loop-length.length-index c.loop-length.entries.items (omega arith)
    c.loop-length.invariant
