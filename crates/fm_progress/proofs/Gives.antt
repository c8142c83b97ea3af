-- What is held is recorded, or given back with what lowers the owed.
use Rattle.std.proofs.Common.{◌≡◌, ◌⊎◌, ℕ, ◌+◌, ◌-◌, ◌<◌, ◌≤◌, length, Bool, true, false, refl, sym, ap, ◌∙◌, inl, inr, arith, le_trans, ltb-true}
use Rattle.std.proofs.lemmas.Bool.{eqb-true, eq-eqb}
use Rattle.std.specs.Prelude.{not, ◌&&◌, ◌||◌, nat_eq, nat_lt}
use Rattle.fm_line.specs.Line.{line, upper}
use Rattle.fm_line.specs.declared.line.Line.{Line}
use Rattle.fm_core.proofs.Booleans.{not_false, not_true, false_from, true_from, or_cases, both, and_true, and_false, not_below, bit_one}
use Rattle.fm_core.proofs.GiveTests.{may_give}
use Rattle.fm_core.proofs.Given.{upper_end, take_le}
use Rattle.fm_core.proofs.TagLemmas.{held_is_born, held_ended}
use Rattle.fm_core.specs.Effects.{given, after}
use Rattle.fm_core.specs.Floors.{within}
use Rattle.fm_core.specs.Giving.{MayGive}
use Rattle.fm_core.specs.Invariant.{ValidSetting, Sound}
use Rattle.fm_core.specs.Numbers.{bit}
use Rattle.fm_core.specs.State.{Setting, State, cell, desk}
use Rattle.fm_core.specs.Tags.{is_out, is_ended, is_held}
use Rattle.fm_core.specs.Taking.{must_take}
use Rattle.fm_core.specs.declared.cell.Cell.{Cell}
use Rattle.fm_core.specs.declared.step.Step.TheVariants.{Give}
use Rattle.fm_progress.proofs.Falls.{by_owed}
use Rattle.fm_progress.proofs.Owed.{owed_given, owed_falls}
use Rattle.fm_progress.specs.Left.{ready, owed_of, events_left, may_compute, can_lower}
use Rattle.fm_progress.specs.Progress.{Nearer}

module _ (g : Setting) (h : State) (valid : ValidSetting g) (ok : Sound g h) (p : ℕ) (lt : p < length h.cells)
    (held : is_held (cell h p).tag ≡ true) where
  abbrev c : Cell
  c = cell h p

  abbrev l : Line
  l = line g.lines p

  abbrev t : ℕ
  t = must_take g h c.seat p

  seat_there : c.seat < length h.desks
  seat_there = ok.seated p lt held

  -- the process comes home at the upper clock, with the next event where it may be computed
  pub gives_most : (m : Bool) → may_compute g h p ≡ m → (is_out c.tag && not c.recorded) ≡ false
      → MayGive g h c.seat p t (bit m) (upper l (c.computed + bit m)) (nat_eq (c.computed + bit m) (length l.events))
  gives_most m e noted_first = let f = ok.fits p lt in let fit = fits m e in let none = none_more m e in record {
    seat = seat_there;
    process = lt;
    held = and_true _ _ held (eq-eqb _ _ refl);
    take = refl;
    fits = fit;
    none_more = none;
    low = low m e;
    roomy = roomy m e;
    on = le_trans (f.timed (held_is_born c.tag held)) (valid.lines.rising p c.computed (c.computed + bit m) (omega arith));
    within = omega arith;
    same = λ ended. let w = f.whole ended in let a = f.at_end ended in upper_end l (c.computed + bit m) (omega arith) ∙ sym a;
    stays = λ ended. let w = f.whole ended in let z = none ended in eq-eqb _ _ (omega arith);
    whole = λ all. let w = eqb-true (c.computed + bit m) (length l.events) all in omega arith;
    at_end = λ all. let w = eqb-true (c.computed + bit m) (length l.events) all in upper_end l (c.computed + bit m) (omega arith);
    recorded = λ all. recorded (is_out c.tag) refl;
  }
    where
      fits : (b : Bool) → may_compute g h p ≡ b → c.computed + bit b ≤ length l.events
      fits true e = let a = ltb-true c.computed (length l.events) (both _ _ e).0 in omega arith
      fits false e = let f = (ok.fits p lt).computed in omega arith

      none_more : (b : Bool) → may_compute g h p ≡ b → is_ended c.tag ≡ true → bit b ≡ 0
      none_more true e ended = let a = ltb-true c.computed (length l.events) (both _ _ e).0 in let w = (ok.fits p lt).whole ended in
          absurd (omega arith)
      none_more false e ended = refl

      low : (b : Bool) → may_compute g h p ≡ b → (i : ℕ) → i < bit b
          → within (desk h c.seat).paced g.lead (upper l (c.computed + i)) ≡ true
      low true e i less = let z : c.computed + i ≡ c.computed = omega arith in rw z (both _ _ (both _ _ e).1).0
      low false e i less = absurd (omega arith)

      roomy : (b : Bool) → may_compute g h p ≡ b → c.computed + bit b ≤ g.room + c.taken + t
      roomy true e = let a = ltb-true c.computed (g.room + c.taken + t) (both _ _ (both _ _ e).1).1 in omega arith
      roomy false e = let f = (ok.fits p lt).boxed in omega arith

      recorded : (b : Bool) → is_out c.tag ≡ b → c.recorded ≡ true
      recorded true e = not_false _ (and_false _ _ noted_first e)
      recorded false e = (ok.fits p lt).recorded (held_ended c.tag held ∙ ap not e)

  -- something is taken, the clock comes to be ready, the process ends, or the next event is computed
  abbrev pub Why : Type 0
  Why = (nat_lt 0 t ≡ true) ⊎ (not (ready l c) ≡ true) ⊎ ((is_out c.tag ≡ true) × (events_left g p c ≡ false))
      ⊎ (may_compute g h p ≡ true)

  -- what can be lowered has one of four causes
  pub why : can_lower g h p ≡ true → (is_out c.tag && not c.recorded) ≡ false → Why
  why lower noted_first = one (or_cases _ _ (both _ _ lower).1)
    where
      four : is_out c.tag ≡ true → (not c.recorded ≡ true) ⊎ (not (ready l c) ≡ true) → Why
      four out (inl x) = let r = and_false _ _ noted_first out in absurd (cc)
      four out (inr x) = inr (inl x)

      three : is_out c.tag ≡ true → ((not c.recorded || not (ready l c)) ≡ true) ⊎ (not (events_left g p c) ≡ true) → Why
      three out (inl x) = four out (or_cases _ _ x)
      three out (inr x) = inr (inr (inl (out, not_true _ x)))

      two : is_out c.tag ≡ true → ((not c.recorded || not (ready l c) || not (events_left g p c)) ≡ true) ⊎ (may_compute g h p ≡ true)
          → Why
      two out (inl x) = three out (or_cases _ _ x)
      two out (inr x) = inr (inr (inr x))

      one : (nat_lt 0 t ≡ true) ⊎ ((is_out c.tag && (not c.recorded || not (ready l c) || not (events_left g p c) || may_compute g h p))
          ≡ true) → Why
      one (inl x) = inl x
      one (inr x) = let out = both _ _ x in two out.0 (or_cases _ _ out.1)

  -- the give owes less
  pub gives_less : (m : Bool) → may_compute g h p ≡ m → Why → (is_out c.tag && not c.recorded) ≡ false
      → owed_of l (given g.room c t (bit m) (upper l (c.computed + bit m)) (nat_eq (c.computed + bit m) (length l.events))) < owed_of l c
  gives_less m e reason noted_first = let f = ok.fits p lt in let may = gives_most m e noted_first in let fit = may.fits in
      let taken = f.taken in let some : t ≤ c.computed - c.taken = take_le g h c.seat p in
      let now : bit (not (nat_eq (upper l (c.computed + bit m)) (upper l (c.computed + bit m)))) ≡ 0 =
      ap bit (false_from _ (eq-eqb _ _ refl)) in
      let ended : bit (not (nat_eq (c.computed + bit m) (length l.events))) ≤ bit (not (is_ended c.tag)) =
      ends (is_ended c.tag) (nat_eq (c.computed + bit m) (length l.events)) may.stays in
      rw (owed_given l g.room c t (bit m) (upper l (c.computed + bit m)) (nat_eq (c.computed + bit m) (length l.events)))
      (strictly reason fit taken some now ended)
    where
      ends : (a b : Bool) → (a ≡ true → b ≡ true) → bit (not b) ≤ bit (not a)
      ends true b k = rw (k refl) (omega arith)
      ends false b k = bit_one (not b)

      strictly : Why → c.computed + bit m ≤ length l.events → c.taken ≤ c.computed → t ≤ c.computed - c.taken
          → bit (not (nat_eq (upper l (c.computed + bit m)) (upper l (c.computed + bit m)))) ≡ 0
          → bit (not (nat_eq (c.computed + bit m) (length l.events))) ≤ bit (not (is_ended c.tag))
          → (length l.events - (c.computed + bit m)) + (length l.events - (c.taken + t)) + 0 + bit
          (not (nat_eq (upper l (c.computed + bit m)) (upper l (c.computed + bit m)))) + bit (not c.recorded) + bit
          (not (nat_eq (c.computed + bit m) (length l.events))) < owed_of l c
      strictly (inl x) fit taken some now ended = let y = ltb-true 0 t x in omega arith
      strictly (inr (inl x)) fit taken some now ended = let was : bit (not (ready l c)) ≡ 1 = ap bit x in omega arith
      strictly (inr (inr (inl x))) fit taken some now ended = let all = not_below _ _ x.1 in
          let now_ends : bit (not (nat_eq (c.computed + bit m) (length l.events))) ≡ 0 =
          ap bit (false_from _ (eq-eqb (c.computed + bit m) (length l.events) (omega arith))) in
          let was : bit (not (is_ended c.tag)) ≡ 1 = ap bit (true_from _ (held_ended c.tag held ∙ ap not x.0)) in omega arith
      strictly (inr (inr (inr x))) fit taken some now ended = let one : bit m ≡ 1 = ap bit (sym e ∙ x) in omega arith

  abbrev given_back : ℕ → ℕ → Bool → State
  given_back n now ends = after g h (Give c.seat p t n now ends)

  -- the give that lowers the owed brings the run nearer
  pub lower_give : can_lower g h p ≡ true → (is_out c.tag && not c.recorded) ≡ false
      → Nearer g h (Give c.seat p t (bit (may_compute g h p)) (upper l (c.computed + bit (may_compute g h p)))
      (nat_eq (c.computed + bit (may_compute g h p)) (length l.events)))
  lower_give lower noted_first = let m : Bool = may_compute g h p in let n : ℕ = bit m in let now : ℕ = upper l (c.computed + n) in
      let ends : Bool = nat_eq (c.computed + n) (length l.events) in record {
        allowed = may_give g h c.seat p t n now ends (gives_most m refl noted_first);
        less = by_owed g h (given_back n now ends)
            (owed_falls g h valid ok (given_back n now ends) p (given g.room c t n now ends) refl refl lt
            (gives_less m refl (why lower noted_first) noted_first));
      }
