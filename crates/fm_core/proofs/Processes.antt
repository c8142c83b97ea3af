-- The events of one process among others.
use Rattle.std.proofs.Common.{◌≡◌, ◌≢◌, ℕ, zero, suc, ◌+◌, ◌<◌, List, [], ◌∷◌, ◌++◌, length, get_or, take, Bool, true, false, refl, sym, ap, ◌∙◌, inl, inr, arith}
use Rattle.std.proofs.lemmas.Bool.{eqb-true, eq-eqb}
use Rattle.std.specs.Prelude.{nat_eq, if◌then◌else◌}
use Rattle.fm_line.proofs.Members.{each_in, in_each, in_right}
use Rattle.fm_line.proofs.Order.{not_before}
use Rattle.fm_line.proofs.Sorting.{sorted_in}
use Rattle.fm_line.specs.Line.{event_at}
use Rattle.fm_line.specs.Piece.{Before, before, In, insert, sorted, Ordered, Each}
use Rattle.fm_core.proofs.Booleans.{if_true, if_false, clash}
use Rattle.fm_core.specs.Invariant.{of_process}
use Rattle.fm_msg.specs.Event.{TimedMessage}

-- what holds of each of two lists holds of each of both together
pub append_each : (P : TimedMessage → Type 0) (xs ys : List TimedMessage) → ((i : ℕ) → i < length xs → P (get_or xs i (event_at 0)))
    → ((i : ℕ) → i < length ys → P (get_or ys i (event_at 0))) → (i : ℕ) → i < length (xs ++ ys) → P (get_or (xs ++ ys) i (event_at 0))
append_each P [] ys a b i lt = b i lt
append_each P (x ∷ xs) ys a b zero lt = a 0 (omega arith)
append_each P (x ∷ xs) ys a b (suc i) lt = append_each P xs ys (λ j near. a (suc j) (omega arith)) b i (omega arith)

-- one process's events among two lists are those of the first, then those of the second
pub of_append : (p : ℕ) (xs ys : List TimedMessage) → of_process p (xs ++ ys) ≡ of_process p xs ++ of_process p ys
of_append p [] ys = refl
of_append p (x ∷ xs) ys = go (nat_eq x.process p) (of_append p xs ys)
  where
    go : (b : Bool) → of_process p (xs ++ ys) ≡ of_process p xs ++ of_process p ys
        → (if b then x ∷ of_process p (xs ++ ys) else of_process p (xs ++ ys)) ≡ (if b then x ∷ of_process p xs else of_process p xs)
        ++ of_process p ys
    go true e = ap (λ (zs : List TimedMessage). x ∷ zs) e
    go false e = e

-- where all events are of one process, its events are all
pub of_self : (p : ℕ) (xs : List TimedMessage) → ((i : ℕ) → i < length xs → (get_or xs i (event_at 0)).process ≡ p) → of_process p xs ≡ xs
of_self p [] each = refl
of_self p (x ∷ xs) each = if_true (nat_eq x.process p) (x ∷ of_process p xs) (of_process p xs) (eq-eqb _ _ (each 0 (omega arith)))
    ∙ ap (λ (zs : List TimedMessage). x ∷ zs) (of_self p xs (λ i lt. each (suc i) (omega arith)))

-- where all events are of one process, another has none
pub of_none : (p q : ℕ) (xs : List TimedMessage) → q ≢ p → ((i : ℕ) → i < length xs → (get_or xs i (event_at 0)).process ≡ p)
    → of_process q xs ≡ []
of_none p q [] n each = refl
of_none p q (x ∷ xs) n each = if_false (nat_eq x.process q) (x ∷ of_process q xs) (of_process q xs) (apart (nat_eq x.process q) refl)
    ∙ of_none p q xs n (λ i lt. each (suc i) (omega arith))
  where
    apart : (b : Bool) → nat_eq x.process q ≡ b → nat_eq x.process q ≡ false
    apart true e = let a = each 0 (omega arith) in let b = eqb-true x.process q e in absurd (n (sym b ∙ a))
    apart false e = e

-- one process's events are among all, and are its own
pub of_in : (p : ℕ) (x : TimedMessage) (xs : List TimedMessage) → In x (of_process p xs) → (In x xs) × (x.process ≡ p)
of_in p x [] i = absurd i
of_in p x (y ∷ ys) i = go (nat_eq y.process p) refl i (λ j. of_in p x ys j)
  where
    go : (b : Bool) → nat_eq y.process p ≡ b → In x (if b then y ∷ of_process p ys else of_process p ys)
        → (In x (of_process p ys) → (In x ys) × (x.process ≡ p)) → (In x (y ∷ ys)) × (x.process ≡ p)
    go true e (inl f) r = (inl f, ap (λ (z : TimedMessage). z.process) f ∙ eqb-true y.process p e)
    go true e (inr j) r = (inr (r j).0, (r j).1)
    go false e j r = (inr (r j).0, (r j).1)

-- an event of the process is among the process's events
pub in_of : (p : ℕ) (x : TimedMessage) (xs : List TimedMessage) → x.process ≡ p → In x xs → In x (of_process p xs)
in_of p x [] e i = absurd i
in_of p x (y ∷ ys) e i = go (nat_eq y.process p) refl i (λ j. in_of p x ys e j)
  where
    go : (b : Bool) → nat_eq y.process p ≡ b → In x (y ∷ ys) → (In x ys → In x (of_process p ys))
        → In x (if b then y ∷ of_process p ys else of_process p ys)
    go true f (inl g) r = inl g
    go true f (inr j) r = inr (r j)
    go false f (inl g) r = absurd (clash _ (eq-eqb y.process p (sym (ap (λ (z : TimedMessage). z.process) g) ∙ e)) f)
    go false f (inr j) r = r j

-- an element that stands at an index below n
pub record InTake (x d : TimedMessage) (n : ℕ) (xs : List TimedMessage) : Type 0 where
  pub index : ℕ
  pub below : index < n
  pub there : index < length xs
  pub is : x ≡ get_or xs index d

-- what is among the first n stands at an index below n
pub in_take : (x d : TimedMessage) (n : ℕ) (xs : List TimedMessage) → In x (take n xs) → InTake x d n xs
in_take x d zero [] i = absurd i
in_take x d zero (y ∷ ys) i = absurd i
in_take x d (suc n) [] i = absurd i
in_take x d (suc n) (y ∷ ys) (inl e) = record { index = 0; below = omega arith; there = omega arith; is = e }
in_take x d (suc n) (y ∷ ys) (inr i) = let r = in_take x d n ys i in let a = r.below in let b = r.there in
    record { index = suc r.index; below = omega arith; there = omega arith; is = r.is }

-- an element before the n-th is among the first n
pub take_in : (d : TimedMessage) (n k : ℕ) (xs : List TimedMessage) → k < n → k < length xs → In (get_or xs k d) (take n xs)
take_in d zero k xs a b = absurd (omega arith)
take_in d (suc n) k [] a b = absurd (omega arith)
take_in d (suc n) zero (y ∷ ys) a b = inl refl
take_in d (suc n) (suc k) (y ∷ ys) a b = inr (take_in d n k ys (omega arith) (omega arith))

-- numbers that rise
abbrev pub Up : List TimedMessage → Type 0
Up [] = Unit {0}
Up (e ∷ es) = Each (λ x. e.index < x.index) es × Up es

-- the first events of a line rise in their indices
pub up_from : (o n : ℕ) (d : TimedMessage) (xs : List TimedMessage) → ((k : ℕ) → k < length xs → (get_or xs k d).index ≡ o + k)
    → Up (take n xs)
up_from o zero d [] f = tt
up_from o zero d (x ∷ xs) f = tt
up_from o (suc n) d [] f = tt
up_from o (suc n) d (x ∷ xs) f = (
  in_each (λ y. x.index < y.index) (take n xs) (λ y i. let r = in_take y d n xs i in let a = f 0 (omega arith) in let t = r.there in
      let b = f (suc r.index) (omega arith) in let e = ap (λ (z : TimedMessage). z.index) r.is in omega arith),
  up_from (suc o) n d xs (λ k lt. let a = f (suc k) (omega arith) in omega arith),
)

-- an event of the second of two lists that rise together has the higher index
pub up_apart : (xs ys : List TimedMessage) (x y : TimedMessage) → Up (xs ++ ys) → In x xs → In y ys → x.index < y.index
up_apart [] ys x y u i j = absurd i
up_apart (z ∷ xs) ys x y u (inl e) j = let a = each_in (λ w. z.index < w.index) (xs ++ ys) y u.0 (in_right y xs ys j) in
    let b = ap (λ (w : TimedMessage). w.index) e in omega arith
up_apart (z ∷ xs) ys x y u (inr i) j = up_apart xs ys x y u.1 i j

-- the second of two lists that rise together rises
pub up_right : (xs ys : List TimedMessage) → Up (xs ++ ys) → Up ys
up_right [] ys u = u
up_right (x ∷ xs) ys u = up_right xs ys u.1

insert_of : (p : ℕ) (e : TimedMessage) (ys : List TimedMessage) → ((y : TimedMessage) → In y ys → y.process ≡ e.process → Before e y)
    → of_process p (insert e ys) ≡ of_process p (e ∷ ys)
insert_of p e [] f = refl
insert_of p e (y ∷ ys) f = go (before y e) refl (insert_of p e ys (λ z i. f z (inr i)))
  where
    both_ways : (a b : Bool) → nat_eq e.process p ≡ a → nat_eq y.process p ≡ b → before y e ≡ true
        → of_process p (insert e ys) ≡ (if a then e ∷ of_process p ys else of_process p ys)
        → (if b then y ∷ of_process p (insert e ys) else of_process p (insert e ys))
        ≡ (if a then e ∷ (if b then y ∷ of_process p ys else of_process p ys)
        else (if b then y ∷ of_process p ys else of_process p ys))
    both_ways true true u v t r = let same : y.process ≡ e.process = eqb-true _ _ v ∙ sym (eqb-true _ _ u) in
        absurd (clash _ t (not_before e y (f y (inl refl) same)))
    both_ways true false u v t r = r
    both_ways false true u v t r = ap (λ (zs : List TimedMessage). y ∷ zs) r
    both_ways false false u v t r = r

    go : (b : Bool) → before y e ≡ b → of_process p (insert e ys) ≡ of_process p (e ∷ ys)
        → of_process p (if b then y ∷ insert e ys else e ∷ y ∷ ys) ≡ of_process p (e ∷ y ∷ ys)
    go true t r = both_ways (nat_eq e.process p) (nat_eq y.process p) refl refl t r
    go false t r = refl

-- sorting leaves the order of the events of one process
pub sorted_of : (p : ℕ) (es : List TimedMessage) → Ordered es → of_process p (sorted es) ≡ of_process p es
sorted_of p [] o = refl
sorted_of p (e ∷ es) o = insert_of p e (sorted es) (λ y i. each_in (λ x. x.process ≡ e.process → Before e x) es y o.0 (sorted_in y es i))
    ∙ again (nat_eq e.process p) (sorted_of p es o.1)
  where
    again : (b : Bool) → of_process p (sorted es) ≡ of_process p es
        → (if b then e ∷ of_process p (sorted es) else of_process p (sorted es)) ≡ (if b then e ∷ of_process p es else of_process p es)
    again true r = ap (λ (zs : List TimedMessage). e ∷ zs) r
    again false r = r
