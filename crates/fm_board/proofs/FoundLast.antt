-- What a seat keeps of its last pace and its last look is what its view says.
use Rattle.std.proofs.Common.{◌≡◌, ◌⊎◌, ℕ, zero, suc, ◌+◌, ◌-◌, List, [], ◌∷◌, ◌++◌, length, set, Bool, true, false, Option, Some, None, refl, sym, ap, ◌∙◌, subst, inl, inr, arith, eq-eqb, eqb-true, length-append}
use Rattle.std.specs.Prelude.{if◌then◌else◌, nat_eq, ◌&&◌}
use Rattle.fm_core.proofs.Booleans.{clash}
use Rattle.fm_core.specs.Sweep.{swept}
use Rattle.fm_core.specs.Tags.{has_nothing, is_ended}
use Rattle.fm_core.specs.Taking.{is_due}
use Rattle.fm_core.specs.declared.floor.Floor.{Floor}
use Rattle.fm_core.specs.declared.sight.Sight.{Sight as Look}
use Rattle.fm_core.specs.declared.tag.Tag.{Tag}
use Rattle.fm_core.specs.declared.step.Step.{Step}
use Rattle.fm_core.specs.declared.step.Step.TheVariants.{Recall}
use Rattle.fm_board.specs.Minds.{did, recalled}
use Rattle.fm_board.specs.Seats.{IsLatest}
use Rattle.fm_board.specs.declared.view.Mind.{Mind}
use Rattle.fm_board.specs.View.{InTurn, entered, gave, looked, visits_of}
use Rattle.fm_board.specs.declared.view.Hold.{Hold}
use Rattle.fm_board.specs.declared.view.View.{View}

-- of this view
abbrev pub FoundIn : Floor → Bool → View → Type 0
FoundIn f i v = IsLatest f i v.paced v.number v.visited v.sweep

-- the view is told by another name
pub latest_now : (f : Floor) (i : Bool) (v w : View) → FoundIn f i v → w ≡ v → FoundIn f i w
latest_now f i v w q is = subst (FoundIn f i) (sym is) q

-- a word that is no look leaves what the last look found
pub recalled_idle : (m : Mind) (p : ℕ) (xs : List Step) (t : Tag) → (recalled m p xs t).idle ≡ m.log.idle
recalled_idle m p xs t = go (is_ended t)
  where
    go : (b : Bool) → (if b then did m (Recall m.view.number p) xs else m.log).idle ≡ m.log.idle
    go true = refl
    go false = refl

-- ---- marks

set_twice : {A : Type 0} (l : List A) (n : ℕ) (a : A) → set (set l n a) n a ≡ set l n a
set_twice [] n a = refl
set_twice (x ∷ xs) zero a = refl
set_twice (x ∷ xs) (suc n) a = ap (λ ys. x ∷ ys) (set_twice xs n a)

set_apart : {A : Type 0} (l : List A) (m n : ℕ) (a : A) → set (set l m a) n a ≡ set (set l n a) m a
set_apart [] m n a = refl
set_apart (x ∷ xs) zero zero a = refl
set_apart (x ∷ xs) zero (suc n) a = refl
set_apart (x ∷ xs) (suc m) zero a = refl
set_apart (x ∷ xs) (suc m) (suc n) a = ap (λ ys. x ∷ ys) (set_apart xs m n a)

-- ---- a give

-- a mark more leaves those that are there
pub latest_gave : (f : Floor) (i : Bool) (v w : View) → FoundIn f i v → w ≡ gave v → FoundIn f i w
latest_gave f i v w q is = latest_now f i (gave v) w (record { same = q.same; again = λ idle first some. marks v.holds (q.again idle first some) }) is
  where
    marks : (h : Option Hold) → set v.visited (length v.sweep - 1) true ≡ v.visited
        → set (visits_of v h) (length v.sweep - 1) true ≡ visits_of v h
    marks None e = e
    marks (Some h) e = go (nat_eq v.number 0 && is_due v.due)
      where
        go : (b : Bool)
            → set (if b then set v.visited h.process true else v.visited) (length v.sweep - 1) true
            ≡ (if b then set v.visited h.process true else v.visited)
        go true = set_apart v.visited h.process (length v.sweep - 1) true ∙ ap (λ (us : List Bool). set us h.process true) e
        go false = e

-- ---- a look

-- the last look of a sweep is at the process that was looked at
pub swept_last : (xs : List Look) (p : ℕ) (x : Look) → (p ≡ 0) ⊎ ((p ≡ length xs) ⊎ (p + 1 ≡ length xs)) → length (swept xs p x) - 1 ≡ p
swept_last xs p x turn = go (nat_eq p 0) (nat_eq p (length xs)) refl refl turn
  where
    go : (first next : Bool) → nat_eq p 0 ≡ first → nat_eq p (length xs) ≡ next → (p ≡ 0) ⊎ ((p ≡ length xs) ⊎ (p + 1 ≡ length xs))
        → length (if first then x ∷ [] else if next then xs ++ x ∷ [] else xs) - 1 ≡ p
    go true next e f turn = let at = eqb-true p 0 e in omega (arith, at)
    go false true e f turn = let at = eqb-true p (length xs) f in omega (arith, at, length-append xs (x ∷ []))
    go false false e f (inl at) = absurd (clash (nat_eq p 0) (eq-eqb p 0 at) e)
    go false false e f (inr (inl at)) = absurd (clash (nat_eq p (length xs)) (eq-eqb p (length xs) at) f)
    go false false e f (inr (inr at)) = omega (arith, at)

-- where it found nothing to take, seat 0 has visited the process
pub latest_looked : (f : Floor) (i b : Bool) (v w : View) (p k : ℕ) (t : Tag) → FoundIn f i v → InTurn v p → b ≡ has_nothing t
    → w ≡ looked v p t k → FoundIn f b w
latest_looked f i b v w p k t q turn nothing is =
    latest_now f b (looked v p t k) w (record { same = q.same; again = λ idle first some. marked (sym nothing ∙ idle) (eq-eqb v.number 0 first) })
    is
  where
    last : length (swept v.sweep p (entered v p t k)) - 1 ≡ p
    last = swept_last v.sweep p (entered v p t k) turn.turn

    marked : has_nothing t ≡ true → nat_eq v.number 0 ≡ true
        → set (looked v p t k).visited (length (swept v.sweep p (entered v p t k)) - 1) true ≡ (looked v p t k).visited
    marked bare first =
        let now : (looked v p t k).visited ≡ set v.visited p true =
        (λ j. if first j && bare j then set v.visited p true else v.visited) in
        (λ j. set (now j) (last j) true) ∙ (set_twice v.visited p true ∙ sym now)
