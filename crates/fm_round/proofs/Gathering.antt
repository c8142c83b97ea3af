-- Taking what is due, lane by lane.
use Rattle.std.proofs.Common.{◌≡◌, ◌⊎◌, ℕ, zero, suc, ◌+◌, ◌<◌, ◌≤◌, List, [], ◌∷◌, ◌++◌, length, map, take, drop, Option, refl, sym, ap, ap₂, ◌∙◌, subst, inl, inr, arith, append-nil, add-one}
use Rattle.std.proofs.lemmas.Bool.{cases_lt}
use Rattle.std.proofs.Math.Seq.{drop-cons}
use Rattle.std.proofs.lemmas.List.{take_more}
use Rattle.fm_round.specs.declared.lane.Lane.{Lane}
use Rattle.fm_round.specs.Lefts.{joined}
use Rattle.fm_msg.specs.Event.{TimedMessage}
use Rattle.fm_buffer.specs.Outbox.{count_through}
use Rattle.fm_round.specs.Lanes.{due, no_lane, room_of, room_sum, lane, without_due}
use Rattle.fm_round.proofs.Opening.{joined-append}

-- the room of the lanes from an index on is that of the lane there and of those behind it
pub rooms_from : (ss : List Lane) (i : ℕ) → i < length ss
    → room_sum (map room_of (drop i ss)) ≡ room_of (lane ss i) + room_sum (map room_of (drop (i + 1) ss))
rooms_from ss i within =
    let split : drop i ss ≡ lane ss i ∷ drop (suc i) ss = drop-cons ss i no_lane within in
    let next : i + 1 ≡ suc i = add-one i in
    rw (next, split) refl

pub map-push : {A B : Type 0} (f : A → B) (xs : List A) (x : A) → map f (xs ++ x ∷ []) ≡ map f xs ++ f x ∷ []
map-push f [] x = refl
map-push f (y ∷ xs) x = ap (λ ys. f y ∷ ys) (map-push f xs x)

-- what is due of one lane more
pub due_more : (key : Option (ℕ × ℕ)) (ss : List Lane) (i : ℕ) → i < length ss
    → joined (map (due key) (take (i + 1) ss)) ≡ joined (map (due key) (take i ss)) ++ due key (lane ss i)
due_more key ss i within =
    ap (λ xs. joined (map (due key) xs)) (take_more ss i no_lane within)
    ∙ ap joined (map-push (due key) (take i ss) (lane ss i))
    ∙ joined-append (map (due key) (take i ss)) (due key (lane ss i) ∷ [])
    ∙ ap (λ es. joined (map (due key) (take i ss)) ++ es) (append-nil (due key (lane ss i)))

-- what holds at each index is a mapped list
pub mapped_each : (f : Lane → Lane) (old new : List Lane) → length new ≡ length old
    → ((k : ℕ) → k < length old → lane new k ≡ f (lane old k)) → new ≡ map f old
mapped_each f [] [] same each = refl
mapped_each f [] (t ∷ new) same each = absurd (omega arith)
mapped_each f (s ∷ old) [] same each = absurd (omega arith)
mapped_each f (s ∷ old) (t ∷ new) same each =
    ap₂ (λ (x : Lane) (xs : List Lane). x ∷ xs) (each 0 (omega arith))
    (mapped_each f old new (omega arith) (λ k within. each (suc k) (omega arith)))

-- ---- lanes of which nothing waits

-- of them nothing is due
due_none : (key : Option (ℕ × ℕ)) (s : Lane) → s.outbox.events ≡ [] → due key s ≡ []
due_none key s is = rw is refl

-- and without it they are as they were
pub without_none : (key : Option (ℕ × ℕ)) (s : Lane) → s.outbox.events ≡ [] → without_due key s ≡ s
without_none key s is =
    ap (λ es. record s { outbox = record s.outbox { events = es } })
    (subst (λ (es : List TimedMessage). drop (count_through key es) es ≡ es) (sym is) refl)

-- what is due of several such lanes more
pub due_over : (key : Option (ℕ × ℕ)) (ss : List Lane) (a b : ℕ) → a ≤ b → b ≤ length ss
    → ((i : ℕ) → a ≤ i → i < b → (lane ss i).outbox.events ≡ [])
    → joined (map (due key) (take b ss)) ≡ joined (map (due key) (take a ss))
due_over key ss a zero up within none =
    let same : 0 ≡ a = omega arith in ap (λ (n : ℕ). joined (map (due key) (take n ss))) same
due_over key ss a (suc b) up within none =
    by_end (cases_lt b a) (λ more. due_over key ss a b more (omega arith) (λ i above below. none i above (omega arith)))
  where
    next : suc b ≡ b + 1
    next = omega arith

    by_end : (b < a) ⊎ (a ≤ b) → (a ≤ b → joined (map (due key) (take b ss)) ≡ joined (map (due key) (take a ss)))
        → joined (map (due key) (take (suc b) ss)) ≡ joined (map (due key) (take a ss))
    by_end (inl less) before = let same : suc b ≡ a = omega arith in ap (λ (n : ℕ). joined (map (due key) (take n ss))) same
    by_end (inr more) before =
        ap (λ (n : ℕ). joined (map (due key) (take n ss))) next
        ∙ due_more key ss b (omega arith)
        ∙ ap (λ es. joined (map (due key) (take b ss)) ++ es) (due_none key (lane ss b) (none b more (omega arith)))
        ∙ append-nil (joined (map (due key) (take b ss)))
        ∙ before more

drop_no_lane : (k : ℕ) → drop {A = Lane} k [] ≡ []
drop_no_lane zero = refl
drop_no_lane (suc k) = refl

-- fewer lanes have no more room
pub rooms_over : (ss : List Lane) (a b : ℕ) → a ≤ b → room_sum (map room_of (drop b ss)) ≤ room_sum (map room_of (drop a ss))
rooms_over [] a b up =
    omega (
      arith,
      ap (λ (xs : List Lane). room_sum (map room_of xs)) (drop_no_lane a),
      ap (λ (xs : List Lane). room_sum (map room_of
          xs)) (drop_no_lane b),
    )
rooms_over (s ∷ ss) zero zero up = omega arith
rooms_over (s ∷ ss) zero (suc b) up = let less = rooms_over ss 0 b (omega arith) in omega arith
rooms_over (s ∷ ss) (suc a) zero up = absurd (omega arith)
rooms_over (s ∷ ss) (suc a) (suc b) up = rooms_over ss a b (omega arith)
