-- A sweep is fresh exactly where each look would enter again what it entered.
use Rattle.std.proofs.Common.{◌≡◌, ℕ, zero, suc, ◌<◌, ◌≤◌, List, length, get_or, Bool, true, false, refl, sym, ◌∙◌, arith}
use Rattle.std.proofs.lemmas.Bool.{eqb-true, eq-eqb}
use Rattle.std.specs.Prelude.{not, nat_eq, map}
use Rattle.fm_line.specs.Line.{line, greatest}
use Rattle.fm_core.proofs.Below.{none_any, not_any}
use Rattle.fm_core.proofs.Booleans.{not_false, false_from, either_false, neither, if_true, if_false, clash}
use Rattle.fm_core.proofs.Bounds.{same_greatest, bound_born, bound_unborn}
use Rattle.fm_core.specs.Invariant.{ValidSetting, Sound}
use Rattle.fm_core.specs.Numbers.{any_below, bool_eq}
use Rattle.fm_core.specs.State.{Setting, State, cell}
use Rattle.fm_core.specs.Sweep.{sight, bound, sighted}
use Rattle.fm_core.specs.Tags.{is_unborn, is_ended}
use Rattle.fm_core.specs.declared.sight.Sight.{Sight}
use Rattle.fm_progress.specs.Left.{stale_in, changed_in}

module _ (g : Setting) (h : State) (valid : ValidSetting g) (ok : Sound g h) where
  module _ (seen : List Sight) (short : length seen ≤ length h.cells) where
    -- what a look would enter is the bound, where the sweep has the bounds of all before
    entered : (i : ℕ) → i < length seen → ((j : ℕ) → j < i → (sight seen j).clock ≡ bound g h j) → (b : Bool)
        → is_unborn (cell h i).tag ≡ b → (sighted g h seen i).clock ≡ bound g h i
    entered i lt before_it true e = if_true {A = ℕ} (is_unborn (cell h i).tag)
        (greatest (map (λ q. (sight seen q).clock) (line g.lines i).predecessors)) (cell h i).clock e
        ∙ (same_greatest (λ q. (sight seen q).clock) (bound g h) (line g.lines i).predecessors
        (λ k there. before_it (get_or (line g.lines i).predecessors k 0) (valid.lines.below i k 0 there))
        ∙ sym (bound_unborn g h valid.lines i (omega arith) e))
    entered i lt before_it false e = if_false {A = ℕ} (is_unborn (cell h i).tag)
        (greatest (map (λ q. (sight seen q).clock) (line g.lines i).predecessors)) (cell h i).clock e ∙ sym (bound_born g h i e)

    unchanged : ((i : ℕ) → i < length seen → changed_in g h seen i ≡ false) → (k i : ℕ) → i < k → i < length seen
        → (sight seen i).clock ≡ bound g h i
    unchanged same zero i lt near = absurd (omega arith)
    unchanged same (suc k) i lt near = eqb-true _ _ (not_false _ (either_false _ _ (same i near)).0)
        ∙ entered i near (λ j less. unchanged same k j (omega arith) (omega arith)) (is_unborn (cell h i).tag) refl

    to_fresh : any_below (length seen) (changed_in g h seen) ≡ false → any_below (length seen) (stale_in g h seen) ≡ false
    to_fresh f = not_any (length seen) (stale_in g h seen) (λ q lt. let none = none_any (length seen) (changed_in g h seen) f in
        neither (not (nat_eq (sight seen q).clock (bound g h q))) (not (bool_eq (sight seen q).ended (is_ended (cell h q).tag)))
        (false_from _ (eq-eqb _ _ (unchanged none (suc q) q (omega arith) lt)))
        (either_false (not (nat_eq (sight seen q).clock (sighted g h seen q).clock))
        (not (bool_eq (sight seen q).ended (is_ended (cell h q).tag))) (none q lt)).1)

    at_bound : any_below (length seen) (stale_in g h seen) ≡ false → (q : ℕ) → q < length seen → (sight seen q).clock ≡ bound g h q
    at_bound f q lt = eqb-true _ _ (not_false _
        (either_false (not (nat_eq (sight seen q).clock (bound g h q))) (not (bool_eq (sight seen q).ended (is_ended (cell h q).tag)))
        (none_any (length seen) (stale_in g h seen) f q lt)).0)

    to_same : any_below (length seen) (stale_in g h seen) ≡ false → any_below (length seen) (changed_in g h seen) ≡ false
    to_same f = not_any (length seen) (changed_in g h seen)
        (λ q lt. neither (not (nat_eq (sight seen q).clock (sighted g h seen q).clock))
        (not (bool_eq (sight seen q).ended (is_ended (cell h q).tag)))
        (false_from _ (eq-eqb _ _ (at_bound f q lt
        ∙ sym (entered q lt (λ j less. at_bound f j (omega arith)) (is_unborn (cell h q).tag) refl))))
        (either_false (not (nat_eq (sight seen q).clock (bound g h q))) (not (bool_eq (sight seen q).ended (is_ended (cell h q).tag)))
        (none_any (length seen) (stale_in g h seen) f q lt)).1)

    -- a sweep is fresh exactly where each look would enter again what it entered
    pub fresh_by_sight : any_below (length seen) (stale_in g h seen) ≡ any_below (length seen) (changed_in g h seen)
    fresh_by_sight = go (any_below (length seen) (stale_in g h seen)) (any_below (length seen) (changed_in g h seen)) refl refl
      where
        go : (a b : Bool) → any_below (length seen) (stale_in g h seen) ≡ a → any_below (length seen) (changed_in g h seen) ≡ b
            → any_below (length seen) (stale_in g h seen) ≡ any_below (length seen) (changed_in g h seen)
        go true true e f = e ∙ sym f
        go false false e f = e ∙ sym f
        go true false e f = absurd (clash _ e (to_fresh f))
        go false true e f = absurd (clash _ f (to_same e))
