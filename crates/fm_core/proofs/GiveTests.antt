-- The table of a give, as facts and back.
use Rattle.std.proofs.Common.{◌≡◌, ℕ, ◌+◌, length, Bool, true, false, refl, arith, ltb-true}
use Rattle.std.proofs.lemmas.Bool.{eqb-true, eq-eqb, le-ltb, lt-ltb}
use Rattle.std.specs.Prelude.{not, ◌&&◌, ◌||◌, nat_eq, nat_lt}
use Rattle.fm_line.specs.Line.{line, upper}
use Rattle.fm_line.specs.declared.line.Line.{Line}
use Rattle.fm_core.proofs.Below.{not_any, none_any}
use Rattle.fm_core.proofs.Booleans.{not_false, false_from, neither, and_false, not_below, not_positive, either_false, and_not}
use Rattle.fm_core.proofs.Reasons.{no_reason, none_holds}
use Rattle.fm_core.specs.Floors.{within}
use Rattle.fm_core.specs.Giving.{MayGive}
use Rattle.fm_core.specs.State.{Setting, State, cell, desk}
use Rattle.fm_core.specs.Steps.{Allowed, table}
use Rattle.fm_core.specs.Tags.{is_ended}
use Rattle.fm_core.specs.declared.cell.Cell.{Cell}
use Rattle.fm_core.specs.declared.step.Step.TheVariants.{Give}

-- the facts allow the give
pub may_give : (g : Setting) (h : State) (s p t n now : ℕ) (ends : Bool) → MayGive g h s p t n now ends
    → Allowed g h (Give s p t n now ends)
may_give g h s p t n now ends m = let c : Cell = cell h p in let l : Line = line g.lines p in
    no_reason (table g h (Give s p t n now ends)) (
      false_from _ (lt-ltb _ _ m.seat),
      (
        false_from _ (lt-ltb _ _ m.process),
        (
          false_from _ m.held,
          (
            false_from _ (eq-eqb _ _ m.take),
            (
              neither _ _ (le-ltb _ _ m.fits) (no_more (is_ended c.tag) n m.none_more),
              (
                not_any n _ (λ i lt. false_from _ (m.low i lt)),
                (
                  le-ltb _ _ m.roomy,
                  (
                    neither _ _ (neither _ _ (le-ltb _ _ m.on) (le-ltb _ _ m.within)) (same_clock (is_ended c.tag) now c.clock m.same),
                    (
                      neither _ _ (stays (is_ended c.tag) ends m.stays)
                          (whole ends (nat_lt (c.computed + n) (length l.events)) (nat_eq now l.end) c.recorded
                          (λ e. le-ltb _ _ (m.whole e)) (λ e. eq-eqb _ _ (m.at_end e)) m.recorded),
                      tt,
                    ),
                  ),
                ),
              ),
            ),
          ),
        ),
      ),
    )
  where
    no_more : (e : Bool) (k : ℕ) → (e ≡ true → k ≡ 0) → (e && nat_lt 0 k) ≡ false
    no_more true k f = le-ltb 0 k (let z = f refl in omega arith)
    no_more false k f = refl

    same_clock : (e : Bool) (a b : ℕ) → (e ≡ true → a ≡ b) → (e && not (nat_eq a b)) ≡ false
    same_clock true a b f = false_from _ (eq-eqb a b (f refl))
    same_clock false a b f = refl

    stays : (e f : Bool) → (e ≡ true → f ≡ true) → (e && not f) ≡ false
    stays true f k = false_from f (k refl)
    stays false f k = refl

    whole : (e a b d : Bool) → (e ≡ true → a ≡ false) → (e ≡ true → b ≡ true) → (e ≡ true → d ≡ true)
        → (e && (a || not b || not d)) ≡ false
    whole true a b d f k m = neither _ _ (neither _ _ (f refl) (false_from b (k refl))) (false_from d (m refl))
    whole false a b d f k m = refl

-- what an allowed give is
pub given_may : (g : Setting) (h : State) (s p t n now : ℕ) (ends : Bool) → Allowed g h (Give s p t n now ends)
    → MayGive g h s p t n now ends
given_may g h s p t n now ends allowed = let c : Cell = cell h p in let l : Line = line g.lines p in
    let no_test = none_holds (table g h (Give s p t n now ends)) allowed in
    let count = either_false _ _ (no_test 4) in let clocks = either_false _ _ (no_test 7) in let two = either_false _ _ clocks.0 in
    let last = either_false _ _ (no_test 8) in record {
      seat = ltb-true _ _ (not_false _ (no_test 0));
      process = ltb-true _ _ (not_false _ (no_test 1));
      held = not_false _ (no_test 2);
      take = eqb-true _ _ (not_false _ (no_test 3));
      fits = not_below _ _ count.0;
      none_more = λ e. not_positive n (and_false _ _ count.1 e);
      low = λ i lt. not_false _ (none_any n (λ j. not (within (desk h s).paced g.lead (upper l (c.computed + j)))) (no_test 5) i lt);
      roomy = not_below _ _ (no_test 6);
      on = not_below _ _ two.0;
      within = not_below _ _ two.1;
      same = λ e. eqb-true _ _ (and_not _ _ clocks.1 e);
      stays = λ e. and_not _ _ last.0 e;
      whole = λ e. not_below _ _ (either_false _ _ (either_false _ _ (and_false _ _ last.1 e)).0).0;
      at_end = λ e. eqb-true _ _ (not_false _ (either_false _ _ (either_false _ _ (and_false _ _ last.1 e)).0).1);
      recorded = λ e. not_false _ (either_false _ _ (and_false _ _ last.1 e)).1;
    }
