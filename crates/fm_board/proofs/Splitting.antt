-- Seat 0 of a new board makes the others.
use Rattle.std.proofs.Common.{◌≡◌, ◌≢◌, ℕ, suc, ◌<◌, ◌≤◌, List, [], ◌∷◌, ◌++◌, length, get_or, set, false, refl, sym, ap, ◌∙◌, subst, ⊎_elim, inr, arith, length-set, length-append}
use mathlib.Core.Option.{some}
use lib.ListN.{get_elem?}
use Rattle.std.proofs.lemmas.List.{length-replicate}
use Rattle.fm_program.specs.Parts.{PlanParts}
use Rattle.fm_board.proofs.Goings.{goes_on, same_cells}
use Rattle.atomic_table.specs.Table.{Splits}
use Rattle.atomic_table.proofs.Lists.{at_longer, at_set}
use Rattle.fm_core.specs.State.{State, unborn}
use Rattle.fm_core.specs.State as state
use Rattle.fm_board.specs.declared.about.About.{About}
use Rattle.fm_board.specs.declared.view.Log.{Log}
use Rattle.fm_board.specs.declared.view.Mind.{Mind}
use Rattle.fm_board.specs.Minds.{all_lefts, newest, one_more}
use Rattle.fm_board.specs.StandsFor.{IsRun, IsSeat, StandsForSome}
use Rattle.fm_board.proofs.Frames.{halt_stays, at_below, written_stays}
use Rattle.fm_board.specs.Runs.{BeginsWith}
use Rattle.fm_board.proofs.Runs.{runs_still}
use Rattle.fm_board.proofs.Openings.{fresh_left, none_known, none_over, snoc_cases}

-- a seat that makes no step yet
runs_apart : (a : About) (views : List Mind) (h : State) → IsRun a views h → (right : Mind) → right.log ≡ record { mine = []; seen = []; idle = false }
    → IsRun a (views ++ right ∷ []) h
runs_apart a views h q right empty = record {
  steps = q.steps;
  legal = q.legal;
  ends = q.ends;
  made = λ j u e. ⊎_elim (λ (y : get_elem? views j ≡ some u). q.made j u y)
      (λ (y : (j ≡ length views) × (right ≡ u)). ap (λ (z : Mind). z.log.mine) (sym y.1)
      ∙ (ap (λ (l : Log). l.mine) empty ∙ sym (q.none j (let far = y.0 in omega (arith, far))))) (snoc_cases views right u j e);
  none = λ j long. q.none j (let l = length-append views (right ∷ []) in omega (arith, l, long));
  seen = λ j u e. ⊎_elim (λ (y : get_elem? views j ≡ some u). q.seen j u y)
      (λ (y : (j ≡ length views) × (right ≡ u)). subst (λ (l : Log). BeginsWith q.steps l.seen)
      (sym empty ∙ ap (λ (z : Mind). z.log) y.1) (q.steps, refl)) (snoc_cases views right u j e);
  whole = record {
    seat = q.whole.seat;
    mind = q.whole.mind;
    is = at_longer views (right ∷ []) q.whole.seat q.whole.mind q.whole.is;
    all = q.whole.all;
  };
}

-- seat 0 makes a seat
pub splits : (a : About) (id : ℕ) (m : Mind) → m.view.number ≡ 0 → m.made < a.seats → Splits (StandsForSome a) id m (one_more m) (newest m)
splits a id m first more s k at =
    let h : State = k.core in
    let st = k.stands in
    let seat = st.views.viewed id m at in
    let zero_is : id ≡ 0 = sym seat.is.number ∙ first in
    let below = at_below s.views id m at in
    let made : m.made ≡ length s.views = st.views.made m (subst (λ (j : ℕ). get_elem? s.views j ≡ some m) zero_is at) in
    let crew = st.crew in
    let left : Mind = one_more m in
    let right : Mind = newest m in
    let bare = st.views.unmade m.made (omega arith) (omega arith) in
    let newly : IsSeat a h m.made right = record {
      here = omega arith;
      is = record {
        plan = seat.is.plan;
        lead = seat.is.lead;
        seats = seat.is.seats;
        number = refl;
        holds = bare.free;
        sweep = sym (ap (λ (d : state.Desk). d.sweep) bare.desk);
        paced = sym (ap (λ (d : state.Desk). d.paced) bare.desk);
      };
      room = seat.room;
      zero = λ e. absurd (omega arith);
      wide = length-replicate (length m.view.plan.programs) false ∙ ap (λ (q : PlanParts). length q.programs) seat.is.plan;
      known = λ p. let none_yet = none_known (length m.view.plan.programs) p in omega arith;
      over = λ p yes. let no = none_over (length m.view.plan.programs) p in absurd (cc);
    } in
    let older : IsSeat a h id left = record {
      here = seat.here;
      is = seat.is;
      room = seat.room;
      zero = seat.zero;
      wide = seat.wide;
      known = seat.known;
      over = seat.over;
    } in
    let l = length-append (set s.views id left) (right ∷ []) in
    let n = length-set s.views id left in
    record {
      core = h;
      sound = k.sound;
      stands = record {
        crew = st.crew;
        words = st.words;
        homes = st.homes;
        views = record {
          viewed = λ j u e. ⊎_elim
              (λ (x : get_elem? (set s.views id left) j ≡ some u). ⊎_elim
              (λ (y : (j ≡ id) × (left ≡ u)). subst (λ (z : ℕ × Mind). IsSeat a h z.0 z.1) (λ i. (sym y.0 i, y.1 i)) older)
              (λ (y : (j ≢ id) × (get_elem? s.views j ≡ some u)). st.views.viewed j u y.1) (at_set s.views id j left u x))
              (λ (x : (j ≡ length (set s.views id left)) × (right ≡ u)). let at_end : m.made ≡ j = made ∙ sym (x.0 ∙ n) in
              subst (λ (z : ℕ × Mind). IsSeat a h z.0 z.1) (λ i. (at_end i, x.1 i)) newly)
              (snoc_cases (set s.views id left) right u j e);
          unmade = λ j long lt. let longer : suc (length s.views) ≤ j = omega arith in st.views.unmade j (omega arith) lt;
          made = λ u e. ⊎_elim
              (λ (x : get_elem? (set s.views id left) 0 ≡ some u). ⊎_elim
              (λ (y : (0 ≡ id) × (left ≡ u)). let is = ap (λ (z : Mind). z.made) y.1 in omega arith)
              (λ (y : (0 ≢ id) × (get_elem? s.views 0 ≡ some u)). absurd (y.0 (sym zero_is))) (at_set s.views id 0 left u x))
              (λ (x : (0 ≡ length (set s.views id left)) × (right ≡ u)). let zero_long = x.0 in absurd (omega arith))
              (snoc_cases (set s.views id left) right u 0 e);
        };
        halt = λ u e. ⊎_elim
            (λ (y : get_elem? (set s.views id left) 0 ≡ some u). halt_stays a s.words s.words s.views id m left at refl refl st.halt u y)
            (λ (y : (0 ≡ length (set s.views id left)) × (right ≡ u)). let zero_long = y.0 in absurd (omega arith))
            (snoc_cases (set s.views id left) right u 0 e);
        wrote = λ j u x i e holds less few. ⊎_elim
            (λ (y : get_elem? (set s.views id left) j ≡ some u).
            written_stays a s.words s.words s.views id m left at (λ p q r. refl) (λ z h. inr h) st.wrote j u x i y holds less few)
            (λ (y : (j ≡ length (set s.views id left)) × (right ≡ u)). let no = ap (λ (z : Mind). z.view.holds) y.1 ∙ holds in absurd (cc))
            (snoc_cases (set s.views id left) right u j e);
      };
      history = runs_apart a (set s.views id left) h (runs_still a s.views h k.history id m left at refl) right refl;
      going =
          let old = goes_on a s h k.going id m left at s.words h (same_cells a h h refl) (λ x e. (x, e, refl, refl))
          (k.going.known id m at) in
          record {
            left = old.left;
            home = old.home;
            held = λ j u e x holds. ⊎_elim
                (λ (y : get_elem? (set s.views id left) j ≡ some u). old.held j u y x holds)
                (λ (y : (j ≡ length (set s.views id left)) × (right ≡ u)). let no = ap (λ (z : Mind). z.view.holds) y.1 ∙ holds in
                absurd (cc))
                (snoc_cases (set s.views id left) right u j e);
            known = λ j u e p lt. ⊎_elim
                (λ (y : get_elem? (set s.views id left) j ≡ some u). old.known j u y p lt)
                (λ (y : (j ≡ length (set s.views id left)) × (right ≡ u)). subst (λ (z : Mind). old.left p ≤ get_or z.left p 0) y.1
                (subst (λ (q : PlanParts). old.left p ≤ get_or (all_lefts q) p 0) (sym seat.is.plan)
                (let is = fresh_left a.plan p lt in let top = old.most p lt in omega (arith, is, top))))
                (snoc_cases (set s.views id left) right u j e);
            most = old.most;
            born = old.born;
            unborn = old.unborn;
            early = old.early;
          };
      alone = λ u e one near. ⊎_elim
          (λ (y : get_elem? (set s.views id left) 0 ≡ some u). ⊎_elim
          (λ (z : (0 ≡ id) × (left ≡ u)). let is = ap (λ (v : Mind). v.made) z.1 in absurd (omega (arith, is, one, made, below)))
          (λ (z : (0 ≢ id) × (get_elem? s.views 0 ≡ some u)). absurd (z.0 (sym zero_is))) (at_set s.views id 0 left u y))
          (λ (y : (0 ≡ length (set s.views id left)) × (right ≡ u)). let zero_long = y.0 in absurd (omega (arith, zero_long, n, below)))
          (snoc_cases (set s.views id left) right u 0 e);
    }
