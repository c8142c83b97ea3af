use Rattle.std.proofs.Common.{◌≡◌, Some, ap, ap₂, ◌∙◌, sym}
use Rattle.std.specs.Prelude.{option_map}
use Rattle.fm_lex.specs.declared.spot.Spot.{Spot}
use Rattle.fm_meaning.specs.Rules.{score_rules}
use Rattle.fm_meaning.specs.Resolve.{resolved}
use Rattle.fm_meaning.specs.Bounds.{score_totals, bounds_of, limit_faults}
use Rattle.fm_rules.specs.declared.why.Why.{Why}
use Rattle.fm_rules.specs.Why.{fault_at}
use Rattle.fm_outline.proofs.RefusalLemmas.{no_first}
use Rattle.fm_check.proofs.WalkLemmas.{after, play_reached, play_refused}
use Rattle.fm_check.proofs.totals.add.Goals as goal

pub returns-in-None-clause-ok : goal.returns-in-None-clause-ok
returns-in-None-clause-ok c = λ s play rest most weighs r.
    let spot = c.args.spot in
    let sums = c.plus-sums.ensures r.so_far (bounds_of (resolved s).longest play) r.saturates weighs in
    let found = c.first_excess.ensures (score_rules s) spot (score_totals (after r)) (sym most)
    (c.whole.ensures (after r) sums) in
    play_reached s c.args.before c.plus-sums.result spot play rest r sums
    (no_first (limit_faults (score_rules s) spot (score_totals (after r)))
    (sym (found ∙ ap (option_map (fault_at spot)) c.in-None.is)))

pub returns-in-Some-clause-refused : goal.returns-in-Some-clause-refused
returns-in-Some-clause-refused c = λ why at is s play rest most weighs r.
    let spot = c.args.spot in
    let sums = c.plus-sums.ensures r.so_far (bounds_of (resolved s).longest play) r.saturates weighs in
    let found = c.first_excess.ensures (score_rules s) spot (score_totals (after r)) (sym most)
    (c.whole.ensures (after r) sums) in
    let same_why : c.in-Some.why ≡ why = cc in
    let same_spot : spot ≡ at = cc in
    play_refused s c.args.before spot play rest (fault_at spot c.in-Some.why) r
    (found ∙ ap (option_map (fault_at spot)) c.in-Some.is)
    ∙ ap₂ (λ (x : Spot) (w : Why). Some (fault_at x w)) same_spot same_why
