-- The sounds that wait, by their ticks: the earliest one, which began first among its equals, and the others.
use Rattle.std.proofs.Common.{◌≡◌, ℕ, ◌<◌, ◌≤◌, List, [], ◌∷◌, Bool, true, false, filter, refl, sym, ap, ◌∙◌, arith}
use Rattle.std.specs.Prelude.{if◌then◌else◌, nat_le, nat_lt}
use Rattle.std.specs.List.{AllByRecursion}
use Rattle.std.proofs.lemmas.Bool.{leb-true, leb-false, le-leb, ltb-true, lt-ltb, false_from_ne_true}
use Rattle.fm_line.specs.Sounds.{Sound, picked, pick, put_in, in_order, due_by, later_than}

-- sounds by their ticks begin with the earliest
pub in_order-pick : (x : Sound) (xs : List Sound) → in_order (x ∷ xs) ≡ (pick x xs).first ∷ in_order (pick x xs).others
in_order-pick x [] = refl
in_order-pick x (y ∷ ys) =
    let r = pick y ys in
    ap (put_in x) (in_order-pick y ys) ∙ by_test (nat_le x.time r.first.time) (in_order-pick y ys)
  where
    by_test : (b : Bool) → in_order (y ∷ ys) ≡ (pick y ys).first ∷ in_order (pick y ys).others
        → (if b then x ∷ (pick y ys).first ∷ in_order (pick y ys).others
        else (pick y ys).first ∷ put_in x (in_order (pick y ys).others))
        ≡ (if b then picked x (y ∷ ys) else picked (pick y ys).first (x ∷ (pick y ys).others)).first
        ∷ in_order (if b then picked x (y ∷ ys) else picked (pick y ys).first (x ∷ (pick y ys).others)).others
    by_test true e = ap (λ (l : List Sound). x ∷ l) (sym e)
    by_test false e = refl

-- it is not later than any of them
pub pick-least : (x : Sound) (xs : List Sound)
    → AllByRecursion (λ (y : Sound). (pick x xs).first.time ≤ y.time) (x ∷ xs)
pick-least x [] = (omega arith, tt)
pick-least x (y ∷ ys) = by_test (nat_le x.time (pick y ys).first.time) refl (pick-least y ys)
  where
    weaker : (t u : ℕ) → t ≤ u → (zs : List Sound) → AllByRecursion (λ (z : Sound). u ≤ z.time) zs
        → AllByRecursion (λ (z : Sound). t ≤ z.time) zs
    weaker t u l [] a = tt
    weaker t u l (z ∷ zs) a = (let h = a.0 in omega arith, weaker t u l zs a.1)

    by_test : (b : Bool) → nat_le x.time (pick y ys).first.time ≡ b
        → AllByRecursion (λ (z : Sound). (pick y ys).first.time ≤ z.time) (y ∷ ys)
        → AllByRecursion (λ (z : Sound).
        (if b then picked x (y ∷ ys) else picked (pick y ys).first (x ∷ (pick y ys).others)).first.time ≤ z.time)
        (x ∷ y ∷ ys)
    by_test true e a =
        (omega arith, weaker x.time (pick y ys).first.time (leb-true _ _ e) (y ∷ ys) a)
    by_test false e a = (let h = leb-false _ _ e in omega arith, a)

-- ---- what is due

-- where the earliest one is due, it comes first of what is due
pub due-first : (t : ℕ) (x : Sound) (xs : List Sound) → (pick x xs).first.time ≤ t
    → due_by t (x ∷ xs) ≡ (pick x xs).first ∷ due_by t (pick x xs).others
due-first t x xs l =
    ap (filter (λ (y : Sound). nat_le y.time t)) (in_order-pick x xs)
    ∙ rw (le-leb (pick x xs).first.time t l) refl

-- a sound that is due is none of those that are later
pub later-pick : (t : ℕ) (x : Sound) (xs : List Sound) → (pick x xs).first.time ≤ t
    → later_than t (x ∷ xs) ≡ later_than t (pick x xs).others
later-pick t x [] l = rw (not_late (nat_lt t x.time) refl) refl
  where
    not_late : (b : Bool) → nat_lt t x.time ≡ b → nat_lt t x.time ≡ false
    not_late true e = let h = ltb-true _ _ e in absurd (omega arith)
    not_late false e = e
later-pick t x (y ∷ ys) l = by_test (nat_le x.time (pick y ys).first.time) refl l (later-pick t y ys)
  where
    not_late : (z : ℕ) → z ≤ t → (b : Bool) → nat_lt t z ≡ b → nat_lt t z ≡ false
    not_late z h true e = let g = ltb-true _ _ e in absurd (omega arith)
    not_late z h false e = e

    add : (b : Bool) → (us vs : List Sound) → us ≡ vs → (if b then x ∷ us else us) ≡ (if b then x ∷ vs else vs)
    add true us vs e = ap (λ (l : List Sound). x ∷ l) e
    add false us vs e = e

    by_test : (b : Bool) → nat_le x.time (pick y ys).first.time ≡ b
        → (if b then picked x (y ∷ ys) else picked (pick y ys).first (x ∷ (pick y ys).others)).first.time ≤ t
        → ((pick y ys).first.time ≤ t → later_than t (y ∷ ys) ≡ later_than t (pick y ys).others)
        → later_than t (x ∷ y ∷ ys)
        ≡ later_than t (if b then picked x (y ∷ ys) else picked (pick y ys).first (x ∷ (pick y ys).others)).others
    by_test true e h ih = rw (not_late x.time h (nat_lt t x.time) refl) refl
    by_test false e h ih = add (nat_lt t x.time) _ _ (ih h)

-- ---- nothing is due

-- what holds of all sounds holds of them by their ticks
put_in-all : (P : Sound → Type 0) (x : Sound) (xs : List Sound) → P x → AllByRecursion P xs → AllByRecursion P (put_in x xs)
put_in-all P x [] p a = (p, tt)
put_in-all P x (y ∷ ys) p a = by_test (nat_le x.time y.time) (put_in-all P x ys p a.1)
  where
    by_test : (b : Bool) → AllByRecursion P (put_in x ys) → AllByRecursion P (if b then x ∷ y ∷ ys else y ∷ put_in x ys)
    by_test true h = (p, a)
    by_test false h = (a.0, h)

pub in_order-all : (P : Sound → Type 0) (xs : List Sound) → AllByRecursion P xs → AllByRecursion P (in_order xs)
in_order-all P [] a = tt
in_order-all P (x ∷ xs) a = put_in-all P x (in_order xs) a.0 (in_order-all P xs a.1)

-- what fails a test throughout is left out
pub filter-none : (p : Sound → Bool) (xs : List Sound) → AllByRecursion (λ (x : Sound). p x ≡ false) xs → filter p xs ≡ []
filter-none p [] a = refl
filter-none p (x ∷ xs) a = rw a.0 (filter-none p xs a.1)

-- what passes a test throughout is kept
pub filter-all : (p : Sound → Bool) (xs : List Sound) → AllByRecursion (λ (x : Sound). p x ≡ true) xs → filter p xs ≡ xs
filter-all p [] a = refl
filter-all p (x ∷ xs) a = rw a.0 (ap (λ (l : List Sound). x ∷ l) (filter-all p xs a.1))

all-from : (P Q : Sound → Type 0) → ((x : Sound) → P x → Q x) → (xs : List Sound) → AllByRecursion P xs → AllByRecursion Q xs
all-from P Q f [] a = tt
all-from P Q f (x ∷ xs) a = (f x a.0, all-from P Q f xs a.1)

-- where all are later than a tick, none is due there
pub due-none : (t : ℕ) (xs : List Sound) → AllByRecursion (λ (x : Sound). t < x.time) xs → due_by t xs ≡ []
due-none t xs a =
    filter-none (λ (x : Sound). nat_le x.time t) (in_order xs)
    (all-from (λ (x : Sound). t < x.time) (λ (x : Sound). nat_le x.time t ≡ false)
    (λ x l. false_from_ne_true (nat_le x.time t) (λ e. let h = leb-true _ _ e in omega arith))
    (in_order xs) (in_order-all (λ (x : Sound). t < x.time) xs a))

-- and all stay
pub later-all : (t : ℕ) (xs : List Sound) → AllByRecursion (λ (x : Sound). t < x.time) xs → later_than t xs ≡ xs
later-all t xs a =
    filter-all (λ (x : Sound). nat_lt t x.time) xs
    (all-from (λ (x : Sound). t < x.time) (λ (x : Sound). nat_lt t x.time ≡ true) (λ x l. lt-ltb _ _ l) xs a)

-- where the earliest one is later, all are
pub all_later : (t : ℕ) (x : Sound) (xs : List Sound) → t < (pick x xs).first.time
    → AllByRecursion (λ (y : Sound). t < y.time) (x ∷ xs)
all_later t x xs l =
    all-from (λ (y : Sound). (pick x xs).first.time ≤ y.time) (λ (y : Sound). t < y.time)
    (λ y h. omega arith) (x ∷ xs) (pick-least x xs)
