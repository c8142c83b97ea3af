-- What says that nothing lowers the owed is so.
use Rattle.std.proofs.Common.{◌≡◌, ℕ, ◌+◌, ◌-◌, ◌<◌, ◌≤◌, length, get_or, set, Bool, true, false, refl, sym, ap, ◌∙◌, subst, arith, ltb-true, length-set}
use Rattle.std.proofs.lemmas.Bool.{eqb-true, eq-eqb, lt-ltb}
use Rattle.std.specs.Prelude.{not, ◌&&◌, nat_eq, nat_lt}
use native.Mathlib.Decide.{dec_lt}
use Rattle.fm_line.specs.Line.{line, upper}
use Rattle.fm_core.proofs.Below.{Found, none_any, any_found}
use Rattle.fm_core.proofs.Booleans.{not_false, not_true, false_from, either_false, both, and_true, and_false, bit_one, not_positive}
use Rattle.fm_core.proofs.Elements.{or_set}
use Rattle.fm_core.proofs.GiveTests.{may_give, given_may}
use Rattle.fm_core.proofs.Reasons.{no_reason, none_holds}
use Rattle.fm_core.proofs.Sums.{sum_le}
use Rattle.fm_core.proofs.TagLemmas.{out_held, held_is_born, held_ended}
use Rattle.fm_core.specs.Effects.{noted, given, after}
use Rattle.fm_core.specs.Floors.{within}
use Rattle.fm_core.specs.Giving.{MayGive}
use Rattle.fm_core.specs.Invariant.{ValidSetting, Sound}
use Rattle.fm_core.specs.Numbers.{bit, any_below}
use Rattle.fm_core.specs.State.{Setting, State, cell, desk, unborn}
use Rattle.fm_core.specs.Steps.{Allowed, table}
use Rattle.fm_core.specs.Tags.{is_unborn, is_out, is_ended, is_held}
use Rattle.fm_core.specs.Taking.{must_take}
use Rattle.fm_core.specs.declared.cell.Cell.{Cell}
use Rattle.fm_core.specs.declared.step.Step.{Step}
use Rattle.fm_core.specs.declared.step.Step.TheVariants.{Record, Give, Look, Claim, Start, Recall, Publish, Pace, Release}
use Rattle.fm_progress.proofs.Gives.{why, gives_most, gives_less}
use Rattle.fm_progress.proofs.Owed.{owed_given, owed_falls}
use Rattle.fm_progress.specs.Left.{ready, owed_of, owed, next_within, may_compute, can_lower, idle, Lowerable, returns_it}

module _ (g : Setting) (h : State) (valid : ValidSetting g) (ok : Sound g h) where
  owed_stays : (k : State) (p : ℕ) (c : Cell) → k.cells ≡ set h.cells p c → k.released ≡ h.released → p < length h.cells
      → owed_of (line g.lines p) (cell h p) ≤ owed_of (line g.lines p) c → owed g h ≤ owed g k
  owed_stays k p c e f lt le = let a = sum_le (length h.cells) (λ q. owed_of (line g.lines q) (cell h q))
      (λ q. owed_of (line g.lines q) (get_or (set h.cells p c) q unborn))
      (λ q near. or_set (λ (x : Cell). owed_of (line g.lines q) (cell h q) ≤ owed_of (line g.lines q) x) h.cells p q c unborn lt
      (λ same. subst (λ (r : ℕ). owed_of (line g.lines r) (cell h r) ≤ owed_of (line g.lines r) c) (sym same) le)
      (λ _. omega arith)) in
      rw (e, f, length-set) (omega arith)

  module _ (stuck : (p : ℕ) → p < length h.cells → can_lower g h p ≡ false) where
    no_record : (s p : ℕ) → Allowed g h (Record s p) → owed g h ≤ owed g (after g h (Record s p))
    no_record s p allowed = let no_test = none_holds (table g h (Record s p)) allowed in
        let lt = ltb-true p (length h.cells) (not_false _ (no_test 1)) in
        let at = both (is_out (cell h p).tag) (nat_eq (cell h p).seat s) (not_false _ (no_test 2)) in
        let can = either_false _ _ (and_false _ _ (stuck p lt) (out_held (cell h p).tag at.0)) in
        let tests = either_false _ _ (either_false _ _ (either_false _ _ (and_false _ _ can.1 at.0)).0).0 in
        let recorded : (cell h p).recorded ≡ true = not_false _ tests.0 in
        owed_stays (after g h (Record s p)) p (noted (cell h p)) refl refl lt (rw recorded (omega arith))

    no_give : (s p t n now : ℕ) (ends : Bool) → Allowed g h (Give s p t n now ends)
        → owed g h ≤ owed g (after g h (Give s p t n now ends))
    no_give s p t n now ends allowed = let may = given_may g h s p t n now ends allowed in let lt = may.process in
        let held = both (is_held (cell h p).tag) (nat_eq (cell h p).seat s) may.held in
        owed_stays (after g h (Give s p t n now ends)) p (given g.room (cell h p) t n now ends) refl refl lt
        (rw (owed_given (line g.lines p) g.room (cell h p) t n now ends)
        (cost may held.0 (eqb-true (cell h p).seat s held.1) (is_out (cell h p).tag) refl))
      where
        cost : MayGive g h s p t n now ends → is_held (cell h p).tag ≡ true → (cell h p).seat ≡ s → (b : Bool) → is_out (cell h p).tag ≡ b
            → owed_of (line g.lines p) (cell h p) ≤ (length (line g.lines p).events - ((cell h p).computed + n))
            + (length (line g.lines p).events - ((cell h p).taken + t)) + 0 + bit
            (not (nat_eq now (upper (line g.lines p) ((cell h p).computed + n)))) + bit (not (cell h p).recorded) + bit (not ends)
        cost may held seat true out = let can = either_false _ _ (and_false _ _ (stuck p may.process) held) in
            let none : must_take g h (cell h p).seat p ≡ 0 = not_positive _ can.0 in
            let zero_t : t ≡ 0 = may.take ∙ (ap (λ (x : ℕ). must_take g h x p) (sym seat) ∙ none) in
            let inner = either_false _ _ (and_false _ _ can.1 out) in let three = either_false _ _ inner.0 in
            let two = either_false _ _ three.0 in
            let is_left : nat_lt (cell h p).computed (length (line g.lines p).events) ≡ true = not_false _ three.1 in
            let more = ltb-true _ _ is_left in
            let zero_n : n ≡ 0 = nothing_new may seat none zero_t inner.1 is_left (dec_lt 0 n) in
            let is_ready = both (not (is_unborn (cell h p).tag)) (nat_eq (cell h p).clock (upper (line g.lines p) (cell h p).computed))
            (not_false _ two.1) in
            let at = eqb-true _ _ is_ready.1 in let z : (cell h p).computed + n ≡ (cell h p).computed = omega arith in
            let born : bit (is_unborn (cell h p).tag) ≡ 0 = ap bit (held_is_born (cell h p).tag held) in
            let was_ready : bit (not (ready (line g.lines p) (cell h p))) ≡ 0 = ap bit two.1 in
            let ended_not : bit (not ends) ≡ 1 = not_over ends may.whole (omega arith) in
            let one = bit_one (not (is_ended (cell h p).tag)) in omega arith
          where
            not_over : (b : Bool) → (b ≡ true → length (line g.lines p).events ≤ (cell h p).computed + n)
                → (cell h p).computed + n < length (line g.lines p).events → bit (not b) ≡ 1
            not_over true f less = let le = f refl in absurd (omega arith)
            not_over false f less = refl

            nothing_new : MayGive g h s p t n now ends → (cell h p).seat ≡ s → must_take g h (cell h p).seat p ≡ 0 → t ≡ 0
                → may_compute g h p ≡ false → nat_lt (cell h p).computed (length (line g.lines p).events) ≡ true → Dec (0 < n) → n ≡ 0
            nothing_new may seat none zero_t not_may is_left (no d) = omega arith
            nothing_new may seat none zero_t not_may is_left (yes d) = let low = may.low 0 d in
                let y : (cell h p).computed + 0 ≡ (cell h p).computed = omega arith in
                let low_here : next_within g (desk h (cell h p).seat).paced p (cell h p) ≡ true =
                subst (λ (x : ℕ). within (desk h x).paced g.lead (upper (line g.lines p) (cell h p).computed) ≡ true) (sym seat)
                (rw y at low) in
                let room = may.roomy in
                let can : may_compute g h p ≡ true = and_true _ _ is_left
                (and_true _ _ low_here (lt-ltb (cell h p).computed (g.room + (cell h p).taken + must_take g h (cell h p).seat p)
                (omega arith))) in absurd (cc)
        cost may held seat false out = let can = either_false _ _ (and_false _ _ (stuck p may.process) held) in
            let none : must_take g h (cell h p).seat p ≡ 0 = not_positive _ can.0 in
            let zero_t : t ≡ 0 = may.take ∙ (ap (λ (x : ℕ). must_take g h x p) (sym seat) ∙ none) in
            let ended : is_ended (cell h p).tag ≡ true = held_ended (cell h p).tag held ∙ ap not out in
            let zero_n = may.none_more ended in let f = ok.fits p may.process in let whole = f.whole ended in
            let z : (cell h p).computed + n ≡ (cell h p).computed = omega arith in
            let is : ready (line g.lines p) (cell h p) ≡ nat_eq (cell h p).clock (upper (line g.lines p) (cell h p).computed) =
            rw (held_is_born (cell h p).tag held) refl in
            let same : bit (not (nat_eq now (upper (line g.lines p) ((cell h p).computed + n)))) ≡ bit
            (not (ready (line g.lines p) (cell h p))) =
            ap (λ (x : ℕ). bit (not (nat_eq now (upper (line g.lines p) x)))) z
            ∙ (ap (λ (x : ℕ). bit (not (nat_eq x (upper (line g.lines p) (cell h p).computed)))) (may.same ended)
            ∙ ap (λ (b : Bool). bit (not b)) (sym is)) in
            let born : bit (is_unborn (cell h p).tag) ≡ 0 = ap bit (held_is_born (cell h p).tag held) in
            let over : bit (not (is_ended (cell h p).tag)) ≡ 0 = ap bit (false_from _ ended) in omega arith

    none_lowers : Lowerable g h → ⊥
    none_lowers x = go x.step x.kind x.allowed x.lowers
      where
        go : (s : Step) → returns_it s ≡ true → Allowed g h s → owed g (after g h s) < owed g h → ⊥
        go (Record s p) k a lt = let le = no_record s p a in omega arith
        go (Give s p t n now ends) k a lt = let le = no_give s p t n now ends a in omega arith
        go (Look s p) k a lt = cc
        go (Claim s p) k a lt = cc
        go (Start s p) k a lt = cc
        go (Recall s p) k a lt = cc
        go Publish k a lt = cc
        go (Pace s) k a lt = cc
        go (Release n) k a lt = cc

  -- where some step lowers the owed, the mark says so
  pub lowerable_is_not_idle : Lowerable g h → idle g h ≡ 0
  lowerable_is_not_idle x = go (any_below (length h.cells) (can_lower g h)) refl
    where
      go : (b : Bool) → any_below (length h.cells) (can_lower g h) ≡ b → idle g h ≡ 0
      go true e = ap (λ (b : Bool). bit (not b)) e
      go false e = absurd (none_lowers (none_any (length h.cells) (can_lower g h) e) x)

  -- where the mark says that something lowers the owed, some step does
  pub not_idle_is_lowerable : idle g h ≡ 0 → Lowerable g h
  not_idle_is_lowerable e = go (any_below (length h.cells) (can_lower g h)) refl e
    where
      step_of : (p : ℕ) → Found (length h.cells) (can_lower g h) p → (b : Bool) → (is_out (cell h p).tag && not (cell h p).recorded) ≡ b
          → Lowerable g h
      step_of p r true f = let two = both (is_out (cell h p).tag) (not (cell h p).recorded) f in let recorded = not_true _ two.1 in
          record {
            step = Record (cell h p).seat p;
            kind = refl;
            allowed = no_reason (table g h (Record (cell h p).seat p)) (
              false_from _ (lt-ltb _ _ (ok.seated p r.below (both (is_held (cell h p).tag) _ r.holds).0)),
              (false_from _ (lt-ltb _ _ r.below), (false_from _ (and_true _ _ two.0 (eq-eqb _ _ refl)), tt)),
            );
            lowers = owed_falls g h valid ok (after g h (Record (cell h p).seat p)) p (noted (cell h p)) refl refl r.below
                (rw recorded (omega arith));
          }
      step_of p r false f = let held = (both (is_held (cell h p).tag) _ r.holds).0 in let c : Cell = cell h p in
          let m : Bool = may_compute g h p in
          let now : ℕ = upper (line g.lines p) (c.computed + bit m) in
          let ends : Bool = nat_eq (c.computed + bit m) (length (line g.lines p).events) in record {
            step = Give c.seat p (must_take g h c.seat p) (bit m) now ends;
            kind = refl;
            allowed = may_give g h c.seat p (must_take g h c.seat p) (bit m) now ends (gives_most g h valid ok p r.below held m refl f);
            lowers = owed_falls g h valid ok (after g h (Give c.seat p (must_take g h c.seat p) (bit m) now ends)) p
                (given g.room c (must_take g h c.seat p) (bit m) now ends) refl refl r.below
                (gives_less g h valid ok p r.below held m refl (why g h valid ok p r.below held r.holds f) f);
          }

      go : (b : Bool) → any_below (length h.cells) (can_lower g h) ≡ b → bit (not b) ≡ 0 → Lowerable g h
      go true f k = let r = any_found (length h.cells) (can_lower g h) f in
          step_of r.0 r.1 (is_out (cell h r.0).tag && not (cell h r.0).recorded) refl
      go false f k = absurd (omega arith)
