-- The least pair of a sweep with a look more.
use Rattle.std.proofs.Common.{◌≡◌, length, sym, ap, ◌∙◌}
use Rattle.fm_core.specs.Sweep.{least, lesser, pair_at}
use Rattle.fm_core.proofs.Pairs.{least_grown}
use Rattle.fm_state.proofs.tables.enter_sight.Goals as goal

pub returns-then-process-len-clause-least : goal.returns-then-process-len-clause-least
returns-then-process-len-clause-least c =
    let a = c.args in
    let seen = a.desk.now.sweep.items in
    let here : a.process ≡ length seen = c.if-process-len.true ∙ c.len.ensures ∙ a.desk.now.sweep.ok.0 in
    c.lesser_pair-desk.ensures
    ∙ ap (λ o. lesser o c.pair-pair.result) c.requires.least
    ∙ ap (lesser (least seen)) (c.pair-pair.ensures ∙ ap (pair_at a.sight) here)
    ∙ sym (ap least c.push_reserved-then-process-len.ensures.items ∙ least_grown seen a.sight)
