-- The opening is sound.
use Rattle.std.proofs.Common.{◌≡◌, ℕ, zero, suc, ◌-◌, ◌<◌, length, get_or, take, true, false, refl, sym, ap, ◌∙◌, subst, arith}
use Rattle.std.proofs.lemmas.List.{length-replicate}
use Rattle.fm_line.specs.Line.{line}
use Rattle.fm_core.proofs.Booleans.{clash}
use Rattle.fm_core.proofs.Fitting.{live_fits}
use Rattle.fm_core.proofs.Elements.{same_all, take_none}
use Rattle.fm_core.proofs.KeepsPublish.{same_at}
use Rattle.fm_core.specs.Invariant.{ValidSetting, Sound, Fits}
use Rattle.fm_core.specs.State.{Setting, cell, unborn, root, no_desk, opening}
use Rattle.fm_core.specs.Tags.{is_unborn, is_ended, is_held}
use Rattle.fm_core.specs.declared.cell.Cell.{Cell}

-- the opening is sound
pub opening_sound : (g : Setting) (seats : ℕ) → ValidSetting g → 0 < seats → Sound g (opening (length g.lines) seats)
opening_sound g seats valid crew = let some = valid.lines.some in record {
  lined = long;
  marked = length-replicate n false ∙ sym long;
  crew = rw length-replicate crew;
  root = refl;
  short = λ s near. rw (same_all seats s no_desk) (omega arith);
  named = λ k lt. absurd (omega arith);
  fits = fits;
  after_all = after_all;
  seated = λ p lt e. absurd (not_held p e);
  alone = λ p q a b e. absurd (not_held p e);
  seen = λ s i near. rw (same_all seats s no_desk) (λ lt. absurd (omega arith));
  seen_ended = λ s i near. rw (same_all seats s no_desk) (λ lt. absurd (omega arith));
  paced = λ s near. rw (same_all seats s no_desk) refl;
  floored = λ f p e lt open_here. let z = same_at 0 f e in omega arith;
  swept_high = λ f i e. rw (same_all seats 0 no_desk) (λ lt. absurd (omega arith));
  led = λ f p k e lt less. absurd (none_computed p k less);
  done = λ p e. absurd (cc);
  done_seen = λ i e. absurd (cc);
  due_floor = λ m i e. absurd (cc);
  due_rest = λ m i p k e. absurd (cc);
  due_all = λ e. absurd (cc);
  kept = λ p lt. sym (ap (λ (t : ℕ). take t (line g.lines p).events) (none_taken p) ∙ take_none (line g.lines p).events);
  not_due = λ _. refl;
  gathered_due = λ k lt. absurd (omega arith);
  gathered = λ p lt. omega arith;
  visited_below = λ m i p k e. absurd (cc);
  visited_all = λ p e. absurd (cc);
  prefix = λ piece is. (piece, refl);
}
  where
    n : ℕ
    n = length g.lines

    at_0 : (P : ℕ → Cell → Type 0) → P 0 root → ((q : ℕ) → P (suc q) unborn) → (p : ℕ) → P p (cell (opening (length g.lines) seats) p)
    at_0 P a b zero = a
    at_0 P a b (suc q) = subst (P (suc q)) (sym (same_all (length g.lines - 1) q unborn)) (b q)

    long : length (opening (length g.lines) seats).cells ≡ length g.lines
    long = let a = length-replicate (length g.lines - 1) unborn in let b = valid.lines.some in omega arith

    not_held : (p : ℕ) → is_held (cell (opening (length g.lines) seats) p).tag ≡ true → ⊥
    not_held = at_0 (λ p c. is_held c.tag ≡ true → ⊥) (λ e. clash true refl (sym e)) (λ q e. clash true refl (sym e))

    none_computed : (p k : ℕ) → k < (cell (opening (length g.lines) seats) p).computed → ⊥
    none_computed p k = at_0 (λ p c. k < c.computed → ⊥) (λ e. omega arith) (λ q e. omega arith) p

    none_taken : (p : ℕ) → (cell (opening (length g.lines) seats) p).taken ≡ 0
    none_taken = at_0 (λ p c. c.taken ≡ 0) refl (λ q. refl)

    after_all : (p i : ℕ) → p < length (opening (length g.lines) seats).cells
        → is_unborn (cell (opening (length g.lines) seats) p).tag ≡ false → i < length (line g.lines p).predecessors
        → is_ended (cell (opening (length g.lines) seats) (get_or (line g.lines p).predecessors i 0)).tag ≡ true
    after_all zero i lt e less = let z = ap length valid.lines.root in absurd (omega arith)
    after_all (suc p) i lt e less = let u : is_unborn (cell (opening (length g.lines) seats) (suc p)).tag ≡ true =
        ap (λ (c : Cell). is_unborn c.tag) (same_all (length g.lines - 1) p unborn) in absurd (clash _ u e)

    fits : (p : ℕ) → p < length (opening (length g.lines) seats).cells → Fits g p (cell (opening (length g.lines) seats) p)
    fits p lt = at_0 (λ p c. Fits g p c) (live_fits g 0 root refl refl (omega arith) (omega arith) (omega arith)
        (λ x. let z = valid.some_room in omega arith) (λ x. absurd (cc)) (rw valid.lines.root (omega arith)) (omega arith)) (λ q. record {
          taken = omega arith;
          computed = omega arith;
          boxed = omega arith;
          unborn = λ x. refl;
          home = λ x. absurd (cc);
          full = λ x. absurd (cc);
          recorded = λ x. absurd (cc);
          whole = λ x. absurd (cc);
          left = λ x. absurd (cc);
          drained = λ x. absurd (cc);
          begun = λ x. absurd (cc);
          timed = λ x. absurd (cc);
          at_end = λ x. absurd (cc);
          ended_out = λ x. absurd (cc);
        }) p
