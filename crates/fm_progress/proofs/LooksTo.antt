-- The looks until a sweep stands at a process: there are so many, and no fewer do.
use Rattle.std.proofs.Common.{◌≡◌, ◌≢◌, ◌⊎◌, ℕ, zero, suc, ◌+◌, ◌-◌, ◌<◌, ◌≤◌, List, [], ◌∷◌, length, true, false, refl, sym, ap, ◌∙◌, subst, inl, inr, arith, length-append}
use Rattle.std.proofs.lemmas.Bool.{eqb-true, eq-eqb}
use Rattle.std.specs.Prelude.{◌||◌, nat_eq}
use mathlib.Core.Logic.{dite}
use native.Mathlib.Decide.{ℕ_discrete, dec_lt}
use Rattle.fm_core.proofs.Booleans.{or_left, or_right, if_true, if_false}
use Rattle.fm_core.specs.Sweep.{swept}
use Rattle.fm_core.specs.declared.sight.Sight.{Sight}
use Rattle.fm_progress.proofs.Looks.{apart, looks_back, looks_far, swept_next, turn_next}
use Rattle.fm_progress.specs.Left.{looks_to}
use Rattle.fm_progress.specs.Looks.{AllInTurn, IsLeastLooks, Way, in_turn, swept_by}

-- ---- how many they are

-- the process 0, and the last of the sweep, are one look away
looks_one : (n t : ℕ) → (t ≡ 0) ⊎ (t + 1 ≡ n) → looks_to n t ≡ 1
looks_one n t near = if_true {A = ℕ} (nat_eq t 0 || nat_eq (t + 1) n) 1 _ (turn near)
  where
    turn : (t ≡ 0) ⊎ (t + 1 ≡ n) → (nat_eq t 0 || nat_eq (t + 1) n) ≡ true
    turn (inl e) = or_left (nat_eq t 0) _ (eq-eqb t 0 e)
    turn (inr e) = or_right (nat_eq t 0) (nat_eq (t + 1) n) (eq-eqb (t + 1) n e)

-- what is known of the number in each case
cases : (n t : ℕ) (P : ℕ → Type 0) → ((t ≡ 0) ⊎ (t + 1 ≡ n) → P 1) → (t ≢ 0 → t + 1 ≢ n → t < n → P (t + 1))
    → (t ≢ 0 → t + 1 ≢ n → n ≤ t → P (t + 1 - n)) → P (looks_to n t)
cases n t P one back far = dite (ℕ_discrete t 0) (λ e. subst P (sym (looks_one n t (inl e))) (one (inl e)))
    (λ a. dite (ℕ_discrete (t + 1) n) (λ e. subst P (sym (looks_one n t (inr e))) (one (inr e)))
    (λ b. dite (dec_lt t n) (λ lt. subst P (sym (looks_back n t a b lt)) (back a b lt))
    (λ far_on. let le : n ≤ t = omega arith in subst P (sym (looks_far n t a b le)) (far a b le))))

-- at most all from 0 on
at_most : (n t : ℕ) → looks_to n t ≤ t + 1
at_most n t = cases n t (λ k. k ≤ t + 1) (λ near. omega arith) (λ a b lt. omega arith) (λ a b le. omega arith)

-- at most those that the sweep lacks
at_most_lacking : (n t : ℕ) → n ≤ t → looks_to n t ≤ t + 1 - n
at_most_lacking n t few = cases n t (λ k. k ≤ t + 1 - n) (λ near. omega arith) (λ a b lt. omega arith) (λ a b le. omega arith)

-- at least one
at_least_one : (n t : ℕ) → 1 ≤ looks_to n t
at_least_one n t = cases n t (λ k. 1 ≤ k) (λ near. omega arith) (λ a b lt. omega arith) (λ a b le. omega arith)

-- at least those that the sweep lacks
at_least_lacking : (n t : ℕ) → t + 1 - n ≤ looks_to n t
at_least_lacking n t = cases n t (λ k. t + 1 - n ≤ k) (λ near. lacks near) (λ a b lt. omega arith) (λ a b le. omega arith)
  where
    lacks : (t ≡ 0) ⊎ (t + 1 ≡ n) → t + 1 - n ≤ 1
    lacks (inl e) = omega arith
    lacks (inr e) = omega arith

-- all from 0 on, where the sweep has passed it
at_least_back : (n t : ℕ) → t ≢ 0 → t + 1 ≢ n → t < n → t + 1 ≤ looks_to n t
at_least_back n t a b lt = let same = looks_back n t a b lt in omega arith

-- ---- one look

-- what a look in turn makes of the length of a sweep
data Turn (n p m : ℕ) : Type 0 where
  anew : p ≡ 0 → m ≡ 1 → Turn n p m
  on : p ≡ n → m ≡ n + 1 → Turn n p m
  again : p + 1 ≡ n → m ≡ n → Turn n p m

turned : (seen : List Sight) (p : ℕ) (x : Sight) → in_turn seen p ≡ true → Turn (length seen) p (length (swept seen p x))
turned seen p x turn = dite (ℕ_discrete p 0) first (λ a. dite (ℕ_discrete p (length seen)) next (λ b. last a b))
  where
    first : p ≡ 0 → Turn (length seen) p (length (swept seen p x))
    first e = anew e (ap length (if_true (nat_eq p 0) (x ∷ []) _ (eq-eqb p 0 e)))

    next : p ≡ length seen → Turn (length seen) p (length (swept seen p x))
    next e = on e (ap (λ q. length (swept seen q x)) e ∙ ap length (swept_next seen x) ∙ length-append seen (x ∷ []))

    last : p ≢ 0 → p ≢ length seen → Turn (length seen) p (length (swept seen p x))
    last a b =
        let third : nat_eq (p + 1) (length seen) ≡ true =
        sym (rw (apart p 0 a, apart p (length seen) b) refl) ∙ turn in
        again (eqb-true (p + 1) (length seen) third)
        (ap length (if_false (nat_eq p 0) (x ∷ []) _ (apart p 0 a) ∙ if_false (nat_eq p (length seen)) _ seen (apart p (length seen) b)))

-- a look brings a sweep at most one look nearer
nearer : (n p m t : ℕ) → Turn n p m → looks_to n t ≤ suc (looks_to m t)
nearer n p m t (anew e is) =
    let far = at_most n t in let rest = at_least_lacking m t in omega arith
nearer n p m t (on e is) = dite (dec_lt t n) passed beyond
  where
    beyond : (t < n → ⊥) → looks_to n t ≤ suc (looks_to m t)
    beyond far_on = let far = at_most_lacking n t (omega arith) in let rest = at_least_lacking m t in omega arith

    passed : t < n → looks_to n t ≤ suc (looks_to m t)
    passed lt = dite (ℕ_discrete t 0) (λ z. let one = looks_one n t (inl z) in omega arith)
        (λ a. let far = at_most n t in let rest = at_least_back m t a (λ same. omega arith) (omega arith) in omega arith)
nearer n p m t (again e is) = rw is (omega arith)

-- the last look
at_last : (n p m t : ℕ) → Turn n p m → m ≡ suc t → looks_to n t ≤ 1
at_last n p m t (anew e is) there = let one = looks_one n t (inl (omega arith)) in omega arith
at_last n p m t (on e is) there = let far = at_most_lacking n t (omega arith) in omega arith
at_last n p m t (again e is) there = let one = looks_one n t (inr (omega arith)) in omega arith

-- ---- all looks

no_fewer : (seen : List Sight) (t : ℕ) (looks : List (ℕ × Sight)) → 0 < length looks → AllInTurn seen looks
    → length (swept_by seen looks) ≡ suc t → looks_to (length seen) t ≤ length looks
no_fewer seen t [] some turns there = absurd (omega arith)
no_fewer seen t (look ∷ []) some turns there =
    at_last (length seen) look.0 (length (swept seen look.0 look.1)) t (turned seen look.0 look.1 turns.0) there
no_fewer seen t (look ∷ other ∷ looks) some turns there =
    let one = nearer (length seen) look.0 (length (swept seen look.0 look.1)) t (turned seen look.0 look.1 turns.0) in
    let rest = no_fewer (swept seen look.0 look.1) t (other ∷ looks) (omega arith) turns.1 there in omega arith

-- looks one after another from the process n on
abbrev ahead : ℕ → ℕ → Sight → List (ℕ × Sight)
ahead n zero x = []
ahead n (suc k) x = (n, x) ∷ ahead (suc n) k x

ahead_many : (n k : ℕ) (x : Sight) → length (ahead n k x) ≡ k
ahead_many n zero x = refl
ahead_many n (suc k) x = ap suc (ahead_many (suc n) k x)

longer : (seen : List Sight) (x : Sight) → length (swept seen (length seen) x) ≡ suc (length seen)
longer seen x = ap length (swept_next seen x) ∙ length-append seen (x ∷ []) ∙ more (length seen)
  where
    more : (n : ℕ) → n + 1 ≡ suc n
    more n = omega arith

ahead_turns : (n k : ℕ) (seen : List Sight) (x : Sight) → n ≡ length seen → AllInTurn seen (ahead n k x)
ahead_turns n zero seen x is = tt
ahead_turns n (suc k) seen x is = (
  rw is (turn_next (length seen)),
  ahead_turns (suc n) k (swept seen n x) x (sym (ap (λ q. length (swept seen q x)) is ∙ longer seen x ∙ ap suc (sym is))),
)

ahead_stands : (n k : ℕ) (seen : List Sight) (x : Sight) → n ≡ length seen → length (swept_by seen (ahead n k x)) ≡ n + k
ahead_stands n zero seen x is = sym is ∙ none n
  where
    none : (m : ℕ) → m ≡ m + 0
    none m = omega arith
ahead_stands n (suc k) seen x is =
    ahead_stands (suc n) k (swept seen n x) x (sym (ap (λ q. length (swept seen q x)) is ∙ longer seen x ∙ ap suc (sym is)))
    ∙ shifted n k
  where
    shifted : (m j : ℕ) → suc m + j ≡ m + suc j
    shifted m j = omega arith

-- a sight that looks can see
any_sight : Sight
any_sight = record { clock = 0; ended = false }

enough : (seen : List Sight) (t : ℕ) → Way seen t (looks_to (length seen) t)
enough seen t = cases (length seen) t (Way seen t) one back far
  where
    one : (t ≡ 0) ⊎ (t + 1 ≡ length seen) → Way seen t 1
    one near = record {
      looks = (t, any_sight) ∷ [];
      count = refl;
      reaches = record { some = omega arith; turns = (turn near, tt); stands = there near (turned seen t any_sight (turn near)) };
    }
      where
        turn : (t ≡ 0) ⊎ (t + 1 ≡ length seen) → in_turn seen t ≡ true
        turn (inl e) = or_left (nat_eq t 0 || nat_eq t (length seen)) _ (or_left (nat_eq t 0) _ (eq-eqb t 0 e))
        turn (inr e) =
            or_right (nat_eq t 0 || nat_eq t (length seen)) (nat_eq (t + 1) (length seen)) (eq-eqb (t + 1) (length seen) e)

        there : (t ≡ 0) ⊎ (t + 1 ≡ length seen) → Turn (length seen) t (length (swept seen t any_sight))
            → length (swept seen t any_sight) ≡ suc t
        there near (anew e is) = omega arith
        there (inl z) (on e is) = omega arith
        there (inr z) (on e is) = absurd (omega arith)
        there near (again e is) = omega arith

    back : t ≢ 0 → t + 1 ≢ length seen → t < length seen → Way seen t (t + 1)
    back a b lt = record {
      looks = (0, any_sight) ∷ ahead 1 t any_sight;
      count = ap suc (ahead_many 1 t any_sight) ∙ more t;
      reaches = record {
        some = omega arith;
        turns = (refl, ahead_turns 1 t (any_sight ∷ []) any_sight refl);
        stands = ahead_stands 1 t (any_sight ∷ []) any_sight refl ∙ less t;
      };
    }
      where
        more : (n : ℕ) → suc n ≡ n + 1
        more n = omega arith

        less : (n : ℕ) → 1 + n ≡ suc n
        less n = omega arith

    far : t ≢ 0 → t + 1 ≢ length seen → length seen ≤ t → Way seen t (t + 1 - length seen)
    far a b le = record {
      looks = ahead (length seen) (t + 1 - length seen) any_sight;
      count = ahead_many (length seen) (t + 1 - length seen) any_sight;
      reaches = record {
        some = let many = ahead_many (length seen) (t + 1 - length seen) any_sight in omega arith;
        turns = ahead_turns (length seen) (t + 1 - length seen) seen any_sight refl;
        stands = ahead_stands (length seen) (t + 1 - length seen) seen any_sight refl ∙ whole (length seen) t le;
      };
    }
      where
        whole : (n m : ℕ) → n ≤ m → n + (m + 1 - n) ≡ suc m
        whole n m le = omega arith

-- the looks are the least that reach the process
pub looks_to_least : (seen : List Sight) (t : ℕ) → IsLeastLooks seen t (looks_to (length seen) t)
looks_to_least seen t = record {
  enough = enough seen t;
  least = λ looks r. no_fewer seen t looks r.some r.turns r.stands;
}
