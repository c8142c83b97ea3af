-- A sweep is stale exactly where some look would enter something else than it has.
use Rattle.std.proofs.Common.{◌≡◌, List, length, Bool, true, false, sym, ap, ◌∙◌, arith}
use Rattle.fm_core.proofs.Below.{any_at, not_any, one_more}
use Rattle.fm_core.specs.Invariant.{ValidSetting, Sound}
use Rattle.fm_core.specs.Numbers.{any_below}
use Rattle.fm_core.specs.State.{Setting, State, desk}
use Rattle.fm_core.specs.declared.sight.Sight.{Sight}
use Rattle.fm_progress.proofs.Fresh.{fresh_by_sight}
use Rattle.fm_progress.specs.Left.{changed_in, any_stale, any_stale_in}
use Rattle.fm_hall.proofs.searches.has_stale_sweep.Goals as goal

-- what is found of the sweep of seat 0 by its sights says whether it is stale
stale_is : (g : Setting) (h : State) → ValidSetting g → Sound g h → (seen : List Sight) → seen ≡ (desk h 0).sweep → (b : Bool)
    → any_below (length seen) (changed_in g h seen) ≡ b → b ≡ any_stale g h
stale_is g h valid sound seen same b found =
    let long = ap length same in let most = sound.short 0 sound.crew in
    sym (ap (any_stale_in g h) (sym same) ∙ (fresh_by_sight g h valid sound seen (omega arith) ∙ found))

pub returns-then-has_changed : goal.returns-then-has_changed
returns-then-has_changed c =
    let g = c.args.rules.now in let h = c.args.tables.now.state in let seen = c.sweep-sweep.result.now in
    stale_is g h c.requires.valid c.requires.sound seen c.sweep-sweep.ensures true (any_at (length seen) (changed_in g h seen)
    c.loop-i.i c.loop-i-test.true (sym c.has_changed.ensures ∙ c.if-has_changed.true))

pub loop-i-preserved : goal.loop-i-preserved
loop-i-preserved c =
    let g = c.args.rules.now in let h = c.args.tables.now.state in let seen = c.sweep-sweep.result.now in
    λ q lt. one_more (changed_in g h seen) c.loop-i.i (sym c.has_changed.ensures ∙ c.if-has_changed.false)
    c.loop-i.invariant q (omega arith)

pub returns : goal.returns
returns c =
    let g = c.args.rules.now in let h = c.args.tables.now.state in let seen = c.sweep-sweep.result.now in
    let past = c.loop-i-test.false in
    stale_is g h c.requires.valid c.requires.sound seen c.sweep-sweep.ensures false (not_any (length seen) (changed_in g h seen)
    (λ q lt. c.loop-i.invariant q (omega arith)))
