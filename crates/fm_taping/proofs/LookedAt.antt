-- What is left off of a look left its seat's view as it was.
use Rattle.std.proofs.Common.{◌≡◌, ◌≢◌, ◌⊎◌, ℕ, ◌+◌, ◌-◌, List, [], ◌∷◌, ◌++◌, length, set, Bool, true, false, refl, sym, ap, ◌∙◌, subst, ⊎_elim, inl, inr, arith, eq-eqb, eqb-true, length-append}
use Rattle.std.specs.Prelude.{if◌then◌else◌, nat_eq, nat_lt, not, ◌&&◌, ◌||◌}
use Rattle.fm_core.proofs.Booleans.{both, clash, either_false, false_from, neither, not_false}
use Rattle.fm_core.specs.Numbers.{bool_eq}
use Rattle.fm_core.specs.Sweep.{sight, swept}
use Rattle.fm_core.specs.Tags.{has_nothing}
use Rattle.fm_core.specs.declared.sight.Sight.{Sight as Look}
use Rattle.fm_core.specs.declared.tag.Tag.{Tag}
use Rattle.fm_record.specs.Recording.{Recording}
use Rattle.fm_board.proofs.FoundLast.{swept_last}
use Rattle.fm_board.specs.View.{InTurn, entered, looked}
use Rattle.fm_board.specs.declared.sweep.Latest.{Latest}
use Rattle.fm_board.specs.declared.view.View.{View}
use Rattle.fm_taping.specs.Keeping.{Keeps, KeepsLook, is_news, look_step}

same_bool : (a b : Bool) → bool_eq a b ≡ true → a ≡ b
same_bool true true e = refl
same_bool true false e = absurd (cc)
same_bool false true e = absurd (cc)
same_bool false false e = refl

bool_same : (a b : Bool) → a ≡ b → bool_eq a b ≡ true
bool_same true true e = refl
bool_same true false e = absurd (cc)
bool_same false true e = absurd (cc)
bool_same false false e = refl

-- a sweep of as many looks, with the last look as it was, is the sweep as it was
sweep_same : (xs : List Look) (p : ℕ) (x : Look) → length xs ≡ length (swept xs p x)
    → sight xs (length xs - 1) ≡ sight (swept xs p x) (length (swept xs p x) - 1) → swept xs p x ≡ xs
sweep_same xs p x many last = go (nat_eq p 0) (nat_eq p (length xs)) xs many last
  where
    go : (first next : Bool) (ys : List Look) → length ys ≡ length (if first then x ∷ [] else if next then ys ++ x ∷ [] else ys)
        → sight ys (length ys - 1)
        ≡ sight (if first then x ∷ [] else if next then ys ++ x ∷ [] else ys)
        (length (if first then x ∷ [] else if next then ys ++ x ∷ [] else ys) - 1)
        → (if first then x ∷ [] else if next then ys ++ x ∷ [] else ys) ≡ ys
    go true next [] long same = absurd (omega (arith, long))
    go true next (y ∷ []) long same = λ i. sym same i ∷ []
    go true next (y ∷ z ∷ zs) long same = absurd (omega (arith, long))
    go false true ys long same = absurd (omega (arith, long, length-append ys (x ∷ [])))
    go false false ys long same = refl

module _ (n p k : ℕ) (t : Tag) (v w : View) (b c : Latest) (number : n ≡ v.number) (turn : InTurn v p) (now : w ≡ looked v p t k)
    (looks : b.looks ≡ length v.sweep) (last : b.last ≡ sight v.sweep (length v.sweep - 1))
    (idle : b.idle ≡ true → v.number ≡ 0 → set v.visited (length v.sweep - 1) true ≡ v.visited)
    (looks_now : c.looks ≡ length w.sweep) (last_now : c.last ≡ sight w.sweep (length w.sweep - 1)) (i : Bool)
    (found : b.idle ≡ (i && nat_lt 0 (length v.sweep))) where
  sweep_now : w.sweep ≡ swept v.sweep p (entered v p t k)
  sweep_now = ap (λ (y : View). y.sweep) now

  -- no news leaves the sweep
  sweep_stays : nat_eq b.looks c.looks ≡ true → b.last ≡ c.last → swept v.sweep p (entered v p t k) ≡ v.sweep
  sweep_stays many same =
      let new : List Look = swept v.sweep p (entered v p t k) in
      sweep_same v.sweep p (entered v p t k)
      (sym looks ∙ (eqb-true b.looks c.looks many ∙ (looks_now ∙ ap (λ (l : List Look). length l) sweep_now)))
      (sym last ∙ (same ∙ (last_now ∙ ap (λ (l : List Look). sight l (length l - 1)) sweep_now)))

  -- and what is visited
  visits_stay : swept v.sweep p (entered v p t k) ≡ v.sweep → (has_nothing t && not b.idle) ≡ false → (looked v p t k).visited ≡ v.visited
  visits_stay sweep none = go (nat_eq v.number 0) refl (has_nothing t) b.idle refl none
    where
      at_last : length v.sweep - 1 ≡ p
      at_last = ap (λ (l : List Look). length l - 1) (sym sweep) ∙ swept_last v.sweep p (entered v p t k) turn.turn

      go : (first : Bool) → nat_eq v.number 0 ≡ first → (bare done : Bool) → b.idle ≡ done → (bare && not done) ≡ false
          → (if first && bare then set v.visited p true else v.visited) ≡ v.visited
      go false zero bare done is never = refl
      go true zero false done is never = refl
      go true zero true true is never =
          ap (λ (j : ℕ). set v.visited j true) (sym at_last) ∙ idle is (eqb-true v.number 0 zero)
      go true zero true false is never = absurd (cc)

  view_stays : is_news b c t ≡ false → w ≡ v
  view_stays news =
      let one = either_false (not (nat_eq b.looks c.looks))
      (not (nat_eq b.last.clock c.last.clock) || (not (bool_eq b.last.ended c.last.ended) || has_nothing t && not b.idle)) news in
      let two = either_false (not (nat_eq b.last.clock c.last.clock))
      (not (bool_eq b.last.ended c.last.ended) || has_nothing t && not b.idle) one.1 in
      let three = either_false (not (bool_eq b.last.ended c.last.ended)) (has_nothing t && not b.idle) two.1 in
      let clock = eqb-true b.last.clock c.last.clock (not_false _ two.0) in
      let ended = same_bool b.last.ended c.last.ended (not_false _ three.0) in
      let sweep = sweep_stays (not_false _ one.0) (λ i. record { clock = clock i; ended = ended i }) in
      let visits = visits_stay sweep three.1 in
      now ∙ (λ i. record v { sweep = sweep i; visited = visits i })

  -- news changes the sweep, or finds nothing to take where the look before found something
  news_tells : is_news b c t ≡ true → (w.sweep ≢ v.sweep) ⊎ ((has_nothing t && not (i && nat_lt 0 (length v.sweep))) ≡ true)
  news_tells news = go (has_nothing t && not b.idle) refl
    where
      go : (fresh : Bool) → (has_nothing t && not b.idle) ≡ fresh
          → (w.sweep ≢ v.sweep) ⊎ ((has_nothing t && not (i && nat_lt 0 (length v.sweep))) ≡ true)
      go true is = inr (ap (λ (y : Bool). has_nothing t && not y) (sym found) ∙ is)
      go false is = inl (λ same.
          let many : b.looks ≡ c.looks = looks ∙ (ap (λ (l : List Look). length l) (sym same) ∙ sym looks_now) in
          let one : b.last ≡ c.last = last ∙ (ap (λ (l : List Look). sight l (length l - 1)) (sym same) ∙ sym last_now) in
          clash (is_news b c t) news
          (neither _ _ (false_from _ (eq-eqb b.looks c.looks many))
          (neither _ _ (false_from _ (eq-eqb b.last.clock c.last.clock (ap (λ (y : Look). y.clock) one)))
          (neither _ _ (false_from _ (bool_same b.last.ended c.last.ended (ap (λ (y : Look). y.ended) one)))
          is))))

  pub keeps_look : (old new : Recording) → Keeps old (look_step n b c p t) new → KeepsLook p t i v w old new
  keeps_look old new keeps = record {
    kept = nat_eq n 0 && is_news b c t;
    tape = keeps;
    leaves = λ no first. view_stays (right_false (nat_eq n 0) (is_news b c t) no (eq-eqb n 0 (number ∙ first)));
    tells = λ yes.
        let two = both (nat_eq n 0) (is_news b c t) yes in
        (sym number ∙ eqb-true n 0 two.0, news_tells two.1);
  }
    where
      right_false : (x y : Bool) → (x && y) ≡ false → x ≡ true → y ≡ false
      right_false true y e is = e
      right_false false y e is = absurd (cc)
