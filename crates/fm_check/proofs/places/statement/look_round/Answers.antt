use Rattle.std.proofs.Common.{◌∙◌, ap}
use Rattle.fm_rules.specs.Found.{IsFirst}
use Rattle.fm_expansion.specs.Outline.{play_in}
use Rattle.fm_meaning.specs.Faults.{first_found}
use Rattle.fm_meaning.specs.Places.{depth_faults}
use Rattle.fm_outline.specs.Asking.{depths_view, own_faults, within}
use Rattle.fm_outline.specs.Needs.{missing, nothing}
use Rattle.fm_outline.specs.View.{instruction_view, tables_view}
use Rattle.fm_outline.proofs.NeedsLemmas.{nothing_missing}
use Rattle.fm_check.proofs.places.statement.look_round.Goals as goal

pub returns : goal.returns
returns c = λ look w.
    let t = tables_view c.args.tables.now in
    let s = c.args.step.now.spot in
    let p = play_in t (instruction_view look c.args.step.now.what) in
    let d = depths_view c.args.depths in
    let own : IsFirst c.first_missing-missing.result (own_faults s p d)
    = c.first_missing-missing.ensures ∙ ap first_found ((c.own_needs-own.ensures.asks look s).list d w) in
    let deep : IsFirst c.first_missing.result (depth_faults s (within p d))
    = rw c.no_needs.ensures at c.first_missing.ensures
    ∙ ap first_found (ap (missing s nothing) (c.opened_by-inner.ensures (within p) (c.opens.ensures t look) w)
    ∙ nothing_missing s (within p d)) in
    c.first_of.ensures _ _ own (λ e. deep)
