use Rattle.std.proofs.Common.{◌≡◌, ◌∙◌, ◌++◌, sym, ap, arith, Err}
use Rattle.std.proofs.lemmas.Grind.{common_steps}
use Rattle.fm_tick.specs.declared.stretch.TheConstants.{MAX_STRETCH}
use Rattle.fm_meaning.specs.Faults.{first_found}
use Rattle.fm_meaning.specs.Ranges.{length_faults, empty_faults, number_faults, part_faults}
use Rattle.fm_rules.specs.Found.{found, numbered}
use Rattle.fm_ranges.proofs.ListLemmas.{first_of_both}
use Rattle.fm_ranges.proofs.lists.check_part.Goals as goal

pub returns-in_err-check_stretched-in-Flat : goal.returns-in_err-check_stretched-in-Flat
returns-in_err-check_stretched-in-Flat c =
    let w = c.args.whole in
    let p = c.in-Flat in
    let e = c.in_err-check_stretched-in-Flat.field-0.0 in
    let is : c.from_residual.result ≡ Err e = grind (arith, common_steps) in
    ap found is
    ∙ first_of_both (length_faults w p.length ++ empty_faults w p.length) (number_faults 1 MAX_STRETCH p.by) (numbered e)
    c.in_err-check_stretched-in-Flat.ensures
    ∙ sym (ap (λ q. first_found (part_faults w q)) p.is)

pub returns-in_err-check_stretched-in-Slope : goal.returns-in_err-check_stretched-in-Slope
returns-in_err-check_stretched-in-Slope c =
    let w = c.args.whole in
    let p = c.in-Slope in
    let e = c.in_err-check_stretched-in-Slope.field-0.0 in
    let is : c.from_residual-in_err-check_stretched-in-Slope.result ≡ Err e = grind (arith, common_steps) in
    ap found is
    ∙ first_of_both (length_faults w p.length ++ empty_faults w p.length ++ number_faults 1 MAX_STRETCH p.by)
    (number_faults 1 MAX_STRETCH p.to) (numbered e)
    (first_of_both (length_faults w p.length ++ empty_faults w p.length) (number_faults 1 MAX_STRETCH p.by) (numbered e)
    c.in_err-check_stretched-in-Slope.ensures)
    ∙ sym (ap (λ q. first_found (part_faults w q)) p.is)
