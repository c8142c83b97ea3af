use Rattle.std.proofs.Common.{◌≡◌, ap, ◌∙◌, Err, length, take, arith, length-take}
use Rattle.std.proofs.lemmas.List.{length-map}
use Rattle.fm_grammar.specs.declared.part_text.PartText.{PartText}
use Rattle.fm_warp.specs.declared.warp.TheConstants.{MAX_PARTS}
use Rattle.fm_meaning.specs.Resolve.{part_of}
use Rattle.fm_meaning.specs.Ranges.{part_faults, part_length, length_spot}
use Rattle.fm_rules.proofs.RangeLemmas.{few_entries, entry_without}
use Rattle.fm_rules.proofs.shape.warp_of.Goals as goal

pub part_of-requires : goal.part_of-requires
part_of-requires c =
    entry_without (part_faults c.args.whole) (λ p. length_spot (part_length p)) MAX_PARTS c.args.parts.now c.requires
    c.loop-part.part-index _ c.loop-part-test.true

pub unreachable-requires : goal.unreachable-requires
unreachable-requires c =
    let parts = c.args.parts.now in
    let few = few_entries (part_faults c.args.whole) (λ p. length_spot (part_length p)) MAX_PARTS parts c.requires in
    let full : length c.loop-part.warp ≡ MAX_PARTS = c.push.ensures.full.0
    (c.in-Err-TooManyParts.is ∙ ap Err c.in-Err-TooManyParts.field-0-is) in
    let so_far : length c.loop-part.warp ≡ length (take c.loop-part.part-index parts)
    = ap length c.loop-part.invariant ∙ length-map (take c.loop-part.part-index parts) (part_of c.args.whole) in
    omega (arith, few, full, so_far, length-take {A = PartText})
