-- Where all is drained, all is released exactly where nothing is gathered.
use Rattle.std.proofs.Common.{◌≡◌, ℕ, ◌+◌, ◌<◌, length, Bool, true, false, refl, sym, ap, ◌∙◌, arith, length-append}
use Rattle.std.specs.Prelude.{◌++◌, not, ◌&&◌, nat_eq}
use Rattle.std.proofs.lemmas.Bool.{eqb-true, eq-eqb}
use Rattle.std.proofs.lemmas.List.{length-take}
use Rattle.fm_line.specs.Line.{line, sum_below, total}
use Rattle.fm_core.proofs.Below.{none_any}
use Rattle.fm_core.proofs.Booleans.{not_false, right_false}
use Rattle.fm_core.proofs.Sums.{sum_same, counted}
use Rattle.fm_core.proofs.TagLemmas.{drained_is}
use Rattle.fm_core.specs.Invariant.{Sound, of_process}
use Rattle.fm_core.specs.Numbers.{any_below}
use Rattle.fm_core.specs.State.{Setting, State, cell}
use Rattle.fm_core.specs.Tags.{is_ended, is_drained}
use Rattle.fm_progress.specs.NextStep.{is_finished}

module _ (g : Setting) (h : State) (ok : Sound g h) where
  -- what is released and gathered of drained processes is all
  all_taken : ((p : ℕ) → p < length h.cells → is_drained (cell h p).tag ≡ true)
      → length h.released + length h.gather ≡ total g.lines
  all_taken drained = let n : ℕ = length h.cells in
      let both_parts = length-append h.released h.gather in
      let count = counted n (h.released ++ h.gather) ok.named in
      let each = sum_same n (λ p. length (of_process p (h.released ++ h.gather))) (λ p. length (line g.lines p).events) (λ p lt.
      let fits = ok.fits p lt in let tag = drained_is (cell h p).tag (drained p lt) in let taken = fits.drained tag in
      let whole = fits.whole (ap is_ended tag) in ap length (ok.kept p lt) ∙ rw length-take (omega arith)) in
      let same : sum_below n (λ p. length (line g.lines p).events) ≡ total g.lines =
      ap (λ (k : ℕ). sum_below k (λ p. length (line g.lines p).events)) ok.lined in omega arith

  -- nothing gathered and all drained is all released and all drained
  pub finished_is : (nat_eq (length h.gather) 0 && not (any_below (length h.cells) (λ p. not (is_drained (cell h p).tag))))
      ≡ is_finished g h
  finished_is = go (any_below (length h.cells) (λ p. not (is_drained (cell h p).tag))) refl
    where
      same_test : (a b c d : ℕ) → a + b ≡ d → nat_eq b 0 ≡ nat_eq a d
      same_test a b c d sum = tests (nat_eq b 0) (nat_eq a d) refl refl
        where
          tests : (x y : Bool) → nat_eq b 0 ≡ x → nat_eq a d ≡ y → nat_eq b 0 ≡ nat_eq a d
          tests true y e f = let none = eqb-true b 0 e in e ∙ sym (eq-eqb a d (omega arith))
          tests false true e f = let all = eqb-true a d f in let zero_b : b ≡ 0 = omega arith in
              let holds = eq-eqb b 0 zero_b in absurd (cc)
          tests false false e f = e ∙ sym f

      go : (b : Bool) → any_below (length h.cells) (λ p. not (is_drained (cell h p).tag)) ≡ b
          → (nat_eq (length h.gather) 0 && not (any_below (length h.cells) (λ p. not (is_drained (cell h p).tag)))) ≡ is_finished g h
      go true e = rw e (right_false (nat_eq (length h.gather) 0) false refl
          ∙ sym (right_false (nat_eq (length h.released) (total g.lines)) false refl))
      go false e = let sum = all_taken (λ p lt. not_false _ (none_any (length h.cells) (λ q. not (is_drained (cell h q).tag)) e p lt)) in
          ap (λ (x : Bool). x && not (any_below (length h.cells) (λ p. not (is_drained (cell h p).tag))))
          (same_test (length h.released) (length h.gather) 0 (total g.lines) sum)
