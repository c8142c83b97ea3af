use Rattle.std.proofs.Common.{◌≡◌, ◌∙◌, sym, ap, arith, Err}
use Rattle.std.proofs.lemmas.Grind.{common_steps}
use Rattle.fm_meaning.specs.Faults.{first_found}
use Rattle.fm_rules.specs.Found.{found, numbered}
use Rattle.fm_ranges.proofs.ListLemmas.{first_of_both, each_more}
use Rattle.fm_ranges.proofs.lists.check_lengths.Goals as goal

pub returns-in_err-check_length : goal.returns-in_err-check_length
returns-in_err-check_length c =
    let e = c.in_err-check_length.field-0.0 in
    let is : c.from_residual.result ≡ Err e = grind (arith, common_steps) in
    ap found is ∙ first_of_both _ _ (numbered e) c.in_err-check_length.ensures
    ∙ sym (c.loop-i.invariant
    ∙ ap first_found (each_more _ _ _ c.loop-i.i c.args.lengths.now _ c.loop-i-test.true c.if-i-ge-MAX_ENTRIES.false))
