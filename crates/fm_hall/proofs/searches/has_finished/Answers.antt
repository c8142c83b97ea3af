-- Where all is drained, all is released exactly where nothing is gathered.
use Rattle.std.proofs.Common.{◌≡◌, ℕ, length, Bool, true, false, refl, sym, ap, ◌∙◌}
use Rattle.std.specs.Prelude.{◌&&◌, not, nat_eq}
use Rattle.std.proofs.lemmas.Bool.{eqb-true, eq-eqb}
use Rattle.fm_core.proofs.Booleans.{left_false}
use Rattle.fm_core.specs.Numbers.{any_below}
use Rattle.fm_core.specs.State.{cell}
use Rattle.fm_core.specs.Tags.{is_drained}
use Rattle.fm_hall.proofs.Finishing.{finished_is}
use Rattle.fm_hall.proofs.searches.has_finished.Goals as goal

pub returns-then-gathered-eq0 : goal.returns-then-gathered-eq0
returns-then-gathered-eq0 c =
    let g = c.args.rules.now in let h = c.args.tables.now.state in
    let none : nat_eq (length h.gather) 0 ≡ true = eq-eqb _ _ (sym c.gathered.ensures ∙ c.if-gathered-eq0.true) in
    let drained : Bool = not (any_below (length h.cells) (λ p. not (is_drained (cell h p).tag))) in
    c.all_drained.ensures ∙ (ap (λ (x : Bool). x && drained) (sym none) ∙ finished_is g h c.requires.sound)

-- the test for 0 fails of another number
not_zero : (n : ℕ) → (n ≡ 0 → ⊥) → (b : Bool) → nat_eq n 0 ≡ b → nat_eq n 0 ≡ false
not_zero n apart true e = absurd (apart (eqb-true n 0 e))
not_zero n apart false e = e

pub returns-else-gathered-eq0 : goal.returns-else-gathered-eq0
returns-else-gathered-eq0 c =
    let g = c.args.rules.now in let h = c.args.tables.now.state in
    let some = not_zero (length h.gather) (λ e. c.if-gathered-eq0.false (c.gathered.ensures ∙ e)) (nat_eq (length h.gather) 0) refl in
    let drained : Bool = not (any_below (length h.cells) (λ p. not (is_drained (cell h p).tag))) in
    ap (λ (n : ℕ). nat_eq n 0) c.gathered.ensures
    ∙ (some ∙ (sym (left_false (nat_eq (length h.gather) 0) drained some) ∙ finished_is g h c.requires.sound))
