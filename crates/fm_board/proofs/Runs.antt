-- The run of a board: a seat's next step, a seat that makes none, and a seat more.
use Rattle.std.proofs.Common.{◌≡◌, ◌≢◌, ◌⊎◌, ℕ, ◌≤◌, List, [], ◌∷◌, ◌++◌, length, set, Bool, true, false, refl, sym, ap, ◌∙◌, subst, ⊎_elim, inl, inr, arith, length-set, append_assoc, append-nil, eqb, eq-eqb, ne_eqb}
use Rattle.std.specs.Prelude.{if◌then◌else◌}
use mathlib.Core.Logic.{dite}
use mathlib.Core.Option.{some, some-injective}
use native.Mathlib.Decide.{ℕ_discrete}
use lib.ListN.{get_elem?}
use Rattle.atomic_table.proofs.Lists.{at_set, set_else, set_here}
use Rattle.fm_core.proofs.Booleans.{clash}
use Rattle.fm_core.proofs.Reasons.{none_holds}
use Rattle.fm_core.specs.Effects.{Legal, after, run}
use Rattle.fm_core.specs.State.{Setting, State}
use Rattle.fm_core.specs.Steps.{Allowed, table}
use Rattle.fm_core.specs.declared.step.Step.{Step}
use Rattle.fm_core.specs.declared.step.Step.TheVariants.{Release}
use Rattle.fm_board.specs.declared.about.About.{About}
use Rattle.fm_board.specs.declared.view.Log.{Log}
use Rattle.fm_board.specs.declared.view.Mind.{Mind}
use Rattle.fm_board.specs.Runs.{BeginsWith, Extends, by_seat, seat_of}
use Rattle.fm_board.specs.StandsFor.{IsRun, IsSeen, beginning, setting}
use Rattle.fm_board.proofs.Frames.{at_below}

-- a step that is allowed behind legal steps is legal with them
pub legal_more : (g : Setting) (h : State) (xs : List Step) (x : Step) → Legal g h xs → Allowed g (run g h xs) x → Legal g h (xs ++ x ∷ [])
legal_more g h [] x legal allowed = (allowed, tt)
legal_more g h (y ∷ ys) x legal allowed = (legal.0, legal_more g (after g h y) ys x legal.1 allowed)

-- and it is run last
pub run_more : (g : Setting) (h : State) (xs : List Step) (x : Step) → run g h (xs ++ x ∷ []) ≡ after g (run g h xs) x
run_more g h [] x = refl
run_more g h (y ∷ ys) x = run_more g (after g h y) ys x

one_more : (k : ℕ) (xs : List Step) (x : Step) → by_seat k (xs ++ x ∷ []) ≡ by_seat k xs ++ by_seat k (x ∷ [])
one_more k [] x = refl
one_more k (y ∷ ys) x = go (eqb (seat_of y) k) (one_more k ys x)
  where
    go : (b : Bool) → by_seat k (ys ++ x ∷ []) ≡ by_seat k ys ++ by_seat k (x ∷ [])
        → (if b then y ∷ by_seat k (ys ++ x ∷ []) else by_seat k (ys ++ x ∷ []))
        ≡ (if b then y ∷ by_seat k ys else by_seat k ys) ++ by_seat k (x ∷ [])
    go true e = ap (λ (l : List Step). y ∷ l) e
    go false e = e

-- a step of this seat is the last of its steps
pub mine_more : (k : ℕ) (xs : List Step) (x : Step) → seat_of x ≡ k → by_seat k (xs ++ x ∷ []) ≡ by_seat k xs ++ x ∷ []
mine_more k xs x mine =
    one_more k xs x ∙ ap (λ (b : Bool). by_seat k xs ++ (if b then x ∷ [] else [])) (eq-eqb (seat_of x) k mine)

-- a step of another is none of them
pub other_more : (k : ℕ) (xs : List Step) (x : Step) → seat_of x ≢ k → by_seat k (xs ++ x ∷ []) ≡ by_seat k xs
other_more k xs x other =
    one_more k xs x ∙ (ap (λ (b : Bool). by_seat k xs ++ (if b then x ∷ [] else [])) (ne_eqb (seat_of x) k other)
    ∙ append-nil (by_seat k xs))

-- a list begins with itself
pub begins_all : (xs : List Step) → BeginsWith xs xs
begins_all xs = ([], sym (append-nil xs))

-- and what a list begins with, a longer one begins with
pub begins_more : (xs ys zs : List Step) → BeginsWith xs ys → BeginsWith (xs ++ zs) ys
begins_more xs ys zs q = (q.0 ++ zs, ap (λ (l : List Step). l ++ zs) q.1 ∙ append_assoc ys q.0 zs)

-- no release is allowed behind a release
due_once : (g : Setting) (h : State) (xs : List Step) (k n : ℕ) → Allowed g (run g h (xs ++ Release k ∷ [])) (Release n) → ⊥
due_once g h xs k n allowed =
    let no_test = none_holds (table g (after g (run g h xs) (Release k)) (Release n))
    (subst (λ (z : State). Allowed g z (Release n)) (run_more g h xs (Release k)) allowed) in
    clash true refl (no_test 0)

-- what a seat has seen, another has that has seen the same
seen_as : (xs : List Step) (u m : Mind) → u.log.seen ≡ m.log.seen
    → (xs ≡ m.log.seen) ⊎ ((n : ℕ) × (xs ≡ m.log.seen ++ Release n ∷ []))
    → (xs ≡ u.log.seen) ⊎ ((n : ℕ) × (xs ≡ u.log.seen ++ Release n ∷ []))
seen_as xs u m same all =
    subst (λ (l : List Step). (xs ≡ l) ⊎ ((n : ℕ) × (xs ≡ l ++ Release n ∷ []))) (sym same) all

module _ (a : About) (views : List Mind) (h : State) (q : IsRun a views h) (id : ℕ) (m w : Mind) (at : get_elem? views id ≡ some m) where
  -- the seat makes one step more, and some seat has seen all steps then, or all but a release
  longer : (x : Step) → Allowed (setting a) h x → seat_of x ≡ id → w.log.mine ≡ m.log.mine ++ x ∷ []
      → BeginsWith (q.steps ++ x ∷ []) w.log.seen → IsSeen (set views id w) (q.steps ++ x ∷ [])
      → IsRun a (set views id w) (after (setting a) h x)
  longer x allowed mine more begins whole =
      let below = at_below views id m at in
      record {
        steps = q.steps ++ x ∷ [];
        legal = legal_more (setting a) (beginning a) q.steps x q.legal
            (subst (λ (z : State). Allowed (setting a) z x) (sym q.ends) allowed);
        ends = run_more (setting a) (beginning a) q.steps x ∙ ap (λ (z : State). after (setting a) z x) q.ends;
        made = λ k u e. ⊎_elim
            (λ (y : (k ≡ id) × (w ≡ u)). ap (λ (z : Mind). z.log.mine) (sym y.1)
            ∙ (more ∙ (ap (λ (l : List Step). l ++ x ∷ []) (q.made id m at)
            ∙ (sym (mine_more id q.steps x mine) ∙ ap (λ (j : ℕ). by_seat j (q.steps ++ x ∷ [])) (sym y.0)))))
            (λ (y : (k ≢ id) × (get_elem? views k ≡ some u)). q.made k u y.1
            ∙ sym (other_more k q.steps x (λ e. y.0 (sym e ∙ mine)))) (at_set views id k w u e);
        none = λ k long.
            let far : length views ≤ k = rw length-set at long in
            other_more k q.steps x (λ e. absurd (omega (arith, e, mine, far, below))) ∙ q.none k far;
        seen = λ k u e. ⊎_elim
            (λ (y : (k ≡ id) × (w ≡ u)). subst (λ (z : Mind). BeginsWith (q.steps ++ x ∷ []) z.log.seen) y.1 begins)
            (λ (y : (k ≢ id) × (get_elem? views k ≡ some u)). begins_more q.steps u.log.seen (x ∷ []) (q.seen k u y.1))
            (at_set views id k w u e);
        whole = whole;
      }

  -- the seat makes one step more, and has seen all of them then
  pub runs_on : (x : Step) → Allowed (setting a) h x → seat_of x ≡ id → w.log.mine ≡ m.log.mine ++ x ∷ []
      → w.log.seen ≡ q.steps ++ x ∷ [] → IsRun a (set views id w) (after (setting a) h x)
  runs_on x allowed mine more all = longer x allowed mine more ([], sym all ∙ sym (append-nil w.log.seen))
      (record { seat = id; mind = w; is = set_here views id w (at_below views id m at); all = inl (sym all) })

  -- who has seen so much is there, where the seat has seen no more
  still_there : w.log.seen ≡ m.log.seen → (k : ℕ) (u : Mind) → get_elem? views k ≡ some u
      → (z : Mind) × (get_elem? (set views id w) k ≡ some z) × (z.log.seen ≡ u.log.seen)
  still_there same k u e = dite (ℕ_discrete k id)
      (λ (y : k ≡ id). (
        w,
        ap (λ (j : ℕ). get_elem? (set views id w) j) y ∙ set_here views id w (at_below views id m at),
        same ∙ ap (λ (z : Mind). z.log.seen) (some-injective m u (sym at ∙ (ap (λ (j : ℕ). get_elem? views j) (sym y) ∙ e))),
      ))
      (λ (y : k ≢ id). (u, set_else views id k w y ∙ e, refl))

  -- the seat makes a release that it owed, and has seen no more than before: none is behind the steps that were seen, since
  -- nothing is due after one
  pub runs_owed : (n : ℕ) → Allowed (setting a) h (Release n) → 0 ≡ id → w.log.mine ≡ m.log.mine ++ Release n ∷ []
      → w.log.seen ≡ m.log.seen → IsRun a (set views id w) (after (setting a) h (Release n))
  runs_owed n allowed mine more same =
      let old = q.whole in
      let u = still_there same old.seat old.mind old.is in
      let begins = begins_more q.steps m.log.seen (Release n ∷ []) (q.seen id m at) in
      longer (Release n) allowed mine more (subst (BeginsWith (q.steps ++ Release n ∷ [])) (sym same) begins)
      (record {
        seat = old.seat;
        mind = u.0;
        is = u.1;
        all = ⊎_elim
            (λ (e : q.steps ≡ old.mind.log.seen). inr (n, ap (λ (l : List Step). l ++ Release n ∷ []) (e ∙ sym u.2)))
            (λ (e : (k : ℕ) × (q.steps ≡ old.mind.log.seen ++ Release k ∷ [])). absurd
            (due_once (setting a) (beginning a) old.mind.log.seen e.0 n
            (subst (λ (z : State). Allowed (setting a) z (Release n))
            (sym q.ends ∙ ap (λ (l : List Step). run (setting a) (beginning a) l) e.1) allowed))) old.all;
      })

  -- the seat makes none
  pub runs_still : w.log ≡ m.log → IsRun a (set views id w) h
  runs_still same = record {
    steps = q.steps;
    legal = q.legal;
    ends = q.ends;
    made = λ k u e. ⊎_elim
        (λ (y : (k ≡ id) × (w ≡ u)). ap (λ (z : Mind). z.log.mine) (sym y.1)
        ∙ (ap (λ (l : Log). l.mine) same ∙ (q.made id m at ∙ ap (λ (j : ℕ). by_seat j q.steps) (sym y.0))))
        (λ (y : (k ≢ id) × (get_elem? views k ≡ some u)). q.made k u y.1) (at_set views id k w u e);
    none = λ k long. q.none k (rw length-set at long);
    seen = λ k u e. ⊎_elim
        (λ (y : (k ≡ id) × (w ≡ u)). subst (λ (l : Log). BeginsWith q.steps l.seen) (sym same ∙ ap (λ (z : Mind). z.log) y.1)
        (q.seen id m at))
        (λ (y : (k ≢ id) × (get_elem? views k ≡ some u)). q.seen k u y.1) (at_set views id k w u e);
    whole =
        let u = still_there (ap (λ (l : Log). l.seen) same) q.whole.seat q.whole.mind q.whole.is in
        record { seat = q.whole.seat; mind = u.0; is = u.1; all = seen_as q.steps u.0 q.whole.mind u.2 q.whole.all };
  }

  -- a step of its own extends its log
  pub extends_on : (x : Step) → seat_of x ≡ id → w.log.mine ≡ m.log.mine ++ x ∷ [] → w.log.seen ≡ q.steps ++ x ∷ []
      → (n : ℕ) → n ≡ id → Extends n m.log w.log
  extends_on x mine more all n number =
      let begins = begins_more q.steps m.log.seen (x ∷ []) (q.seen id m at) in
      record {
        order = (begins.0, all ∙ begins.1);
        own = inr (more ∙ (ap (λ (l : List Step). l ++ x ∷ []) (q.made id m at) ∙ (sym (mine_more id q.steps x mine)
            ∙ ((λ i. by_seat (sym number i) (q.steps ++ x ∷ [])) ∙ ap (by_seat n) (sym all)))));
      }

  -- and so does no step
  pub extends_still : w.log ≡ m.log → (n : ℕ) → Extends n m.log w.log
  extends_still same n = record { order = ([], ap (λ (l : Log). l.seen) same ∙ sym (append-nil m.log.seen)); own = inl same }
