-- Claim, start and record keep the state sound.
use Rattle.std.proofs.Common.{◌≡◌, ◌≢◌, ℕ, ◌<◌, ◌≤◌, length, get_or, true, false, refl, ap, arith, ltb-true}
use Rattle.std.proofs.lemmas.Bool.{eqb-true, eq-eqb}
use Rattle.std.specs.Prelude.{not}
use Rattle.fm_line.specs.Line.{line, start}
use Rattle.fm_core.proofs.Below.{none_any}
use Rattle.fm_core.proofs.Booleans.{not_false, both, and_true}
use Rattle.fm_core.proofs.Bounds.{greatest_above}
use Rattle.fm_core.proofs.Cells.{out_fits, moved_sound, taken_stays}
use Rattle.fm_core.proofs.Reasons.{none_holds}
use Rattle.fm_core.proofs.TagLemmas.{claimable_cases, out_is, unborn_open}
use Rattle.fm_core.specs.Effects.{noted, after, claimed, begun}
use Rattle.fm_core.specs.Invariant.{ValidSetting, Sound, Fits}
use Rattle.fm_core.specs.State.{Setting, State, cell, held_by}
use Rattle.fm_core.specs.Steps.{Allowed, table, holding}
use Rattle.fm_core.specs.Tags.{is_unborn, is_ended, is_held, is_claimable, claimed_tag}
use Rattle.fm_core.specs.declared.cell.Cell.{Cell}
use Rattle.fm_core.specs.declared.step.Step.TheVariants.{Record, Claim, Start}

claimed_fits : (g : Setting) (p s : ℕ) (c : Cell) → Fits g p c → is_claimable s c.tag ≡ true → Fits g p (claimed c s)
claimed_fits g p s c f e = claimable_cases (λ t. c.tag ≡ t
    → Fits g p (record { tag = claimed_tag t; clock = c.clock; seat = s; computed = c.computed; taken = c.taken; recorded = c.recorded }))
    s c.tag e
    (λ is. out_fits g p c.clock s c.computed c.taken c.recorded f.taken f.computed f.boxed (f.begun (rw is refl)) (f.timed (rw is refl)))
    (λ z is. out_fits g p c.clock s c.computed c.taken c.recorded f.taken f.computed f.boxed (f.begun (rw is refl))
    (f.timed (rw is refl)))
    (λ z is. record {
      taken = f.taken;
      computed = f.computed;
      boxed = f.boxed;
      unborn = λ x. absurd (cc);
      home = λ x. absurd (cc);
      full = λ x. absurd (cc);
      recorded = λ x. f.recorded (rw is refl);
      whole = λ x. f.whole (rw is refl);
      left = λ x. f.left (rw is refl);
      drained = λ x. absurd (cc);
      begun = λ x. f.begun (rw is refl);
      timed = λ x. f.timed (rw is refl);
      at_end = λ x. f.at_end (rw is refl);
      ended_out = λ x. eqb-true s 0 z;
    }) refl

module _ (g : Setting) (h : State) (valid : ValidSetting g) (ok : Sound g h) where
  alone_here : (s p : ℕ) → holding h s ≡ false → (q : ℕ) → q < length h.cells → is_held (cell h q).tag ≡ true → (cell h q).seat ≢ s
  alone_here s p free q near held same = let none = none_any (length h.cells) (λ r. held_by s (cell h r)) free q near in
      let some : held_by s (cell h q) ≡ true = and_true _ _ held (eq-eqb _ _ same) in absurd (cc)

  -- an allowed claim keeps the state sound
  pub keeps_claim : (s p : ℕ) → Allowed g h (Claim s p) → Sound g (after g h (Claim s p))
  keeps_claim s p allowed = let no_test = none_holds (table g h (Claim s p)) allowed in
      let near = ltb-true s _ (not_false _ (no_test 0)) in let lt = ltb-true p _ (not_false _ (no_test 1)) in
      let can = not_false _ (no_test 3) in let c : Cell = cell h p in
      let born : is_unborn c.tag ≡ false = claimable_cases (λ t. is_unborn t ≡ false) s c.tag can refl (λ _. refl) (λ _. refl) in
      moved_sound g h valid ok p (claimed c s) lt (record {
        fits = claimed_fits g p s c (ok.fits p lt) can;
        born = claimable_cases (λ t. is_unborn (claimed_tag t) ≡ false) s c.tag can refl (λ _. refl) (λ _. refl);
        ended_on = claimable_cases (λ t. is_ended t ≡ true → is_ended (claimed_tag t) ≡ true) s c.tag can (λ e. absurd (cc))
            (λ _ e. absurd (cc)) (λ _ e. refl);
        waited = λ i there. ok.after_all p i lt born there;
        seat = λ _. near;
        alone = λ q near_q n held _. alone_here s p (no_test 2) q near_q held;
        clock = λ _. omega arith;
        birth = λ i e. absurd (cc);
        computed = omega arith;
        led = λ f k e. ok.led f p k e lt;
      }) h.visited h.gather (taken_stays g h valid ok p (claimed c s) lt refl)

  -- an allowed start keeps the state sound
  pub keeps_start : (s p : ℕ) → Allowed g h (Start s p) → Sound g (after g h (Start s p))
  keeps_start s p allowed = let no_test = none_holds (table g h (Start s p)) allowed in
      let near = ltb-true s _ (not_false _ (no_test 0)) in let lt = ltb-true p _ (not_false _ (no_test 1)) in
      let new = not_false _ (no_test 3) in let c : Cell = cell h p in let f = ok.fits p lt in let is_open = unborn_open c.tag new in
      let waited : (i : ℕ) → i < length (line g.lines p).predecessors
      → is_ended (cell h (get_or (line g.lines p).predecessors i 0)).tag ≡ true =
      (λ i there. not_false _ (none_any (length (line g.lines p).predecessors)
      (λ j. not (is_ended (cell h (get_or (line g.lines p).predecessors j 0)).tag)) (no_test 4) i there)) in
      moved_sound g h valid ok p (begun g c s p) lt (record {
        fits = out_fits g p (start g.lines p) s c.computed c.taken c.recorded f.taken f.computed f.boxed (omega arith)
            (valid.lines.begun p c.computed);
        born = refl;
        ended_on = λ e. absurd (cc);
        waited = waited;
        seat = λ _. near;
        alone = λ q near_q n held _. alone_here s p (no_test 2) q near_q held;
        clock = λ e. absurd (cc);
        birth = λ i e there. let q : ℕ = get_or (line g.lines p).predecessors i 0 in let low : q < p = valid.lines.below p i 0 there in
            let fit = ok.fits q (omega arith) in let at = fit.at_end (waited i there) in
            let up : (line g.lines q).end ≤ start g.lines p = greatest_above (λ (r : ℕ). (line g.lines r).end)
            (line g.lines p).predecessors i there in omega arith;
        computed = omega arith;
        led = λ f k e. ok.led f p k e lt;
      }) h.visited h.gather (taken_stays g h valid ok p (begun g c s p) lt refl)

  -- an allowed record keeps the state sound
  pub keeps_record : (s p : ℕ) → Allowed g h (Record s p) → Sound g (after g h (Record s p))
  keeps_record s p allowed = let no_test = none_holds (table g h (Record s p)) allowed in
      let lt = ltb-true p _ (not_false _ (no_test 1)) in
      let c : Cell = cell h p in let f = ok.fits p lt in let is = out_is c.tag (both _ _ (not_false _ (no_test 2))).0 in
      let held : is_held c.tag ≡ true = ap is_held is in let born : is_unborn c.tag ≡ false = ap is_unborn is in
      moved_sound g h valid ok p (noted c) lt (record {
        fits = record {
          taken = f.taken;
          computed = f.computed;
          boxed = f.boxed;
          unborn = f.unborn;
          home = f.home;
          full = f.full;
          recorded = λ e. refl;
          whole = f.whole;
          left = f.left;
          drained = f.drained;
          begun = f.begun;
          timed = f.timed;
          at_end = f.at_end;
          ended_out = f.ended_out;
        };
        born = born;
        ended_on = λ e. e;
        waited = λ i there. ok.after_all p i lt born there;
        seat = λ _. ok.seated p lt held;
        alone = λ q near n held_q held_c same. n (ok.alone q p near lt held_q held same);
        clock = λ _. omega arith;
        birth = λ i e. absurd (cc);
        computed = omega arith;
        led = λ f k e. ok.led f p k e lt;
      }) h.visited h.gather (taken_stays g h valid ok p (noted c) lt refl)
