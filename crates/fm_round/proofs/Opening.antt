-- At first all of the piece is left.
use Rattle.std.proofs.Common.{◌≡◌, ◌⊎◌, ℕ, zero, suc, ◌+◌, ◌<◌, ◌≤◌, List, [], ◌∷◌, ◌++◌, length, map, take, get_or, refl, sym, ap, ap₂, ◌∙◌, subst, inl, inr, arith, append_assoc, append-nil, add-one}
use Rattle.std.proofs.lemmas.Bool.{cases_eq}
use Rattle.std.proofs.lemmas.List.{take_more, take_all}
use Rattle.fm_msg.specs.Event.{TimedMessage}
use Rattle.fm_line.specs.declared.line.Line.{Line}
use Rattle.fm_line.specs.Line.{event, event_at, line, no_line, upper, ValidLines}
use Rattle.fm_line.specs.Piece.{Before, In, Rises, events_below, sorted}
use Rattle.fm_line.proofs.Members.{in_at}
use Rattle.fm_line.proofs.Rising.{in_above}
use Rattle.fm_program.specs.Parts.{PlanParts}
use Rattle.fm_round.specs.declared.lane.Lane.{Lane}
use Rattle.fm_round.specs.Lefts.{IsOwn, OwnFrom, joined}
use Rattle.fm_round.specs.Halfway.{Playing}
use Rattle.fm_round.specs.Lanes.{IsFresh, lefts, lane}

-- ---- lines one after the other

abbrev events_of : Line → List TimedMessage
events_of l = l.events

pub joined-append : (xss yss : List (List TimedMessage)) → joined (xss ++ yss) ≡ joined xss ++ joined yss
joined-append [] yss = refl
joined-append (xs ∷ xss) yss =
    ap (λ es. xs ++ es) (joined-append xss yss) ∙ sym (append_assoc xs (joined xss) (joined yss))

map-append : (xs ys : List Line) → map events_of (xs ++ ys) ≡ map events_of xs ++ map events_of ys
map-append [] ys = refl
map-append (x ∷ xs) ys = ap (λ xss. x.events ∷ xss) (map-append xs ys)

-- the first n lines, one after the other
joined_below : (ls : List Line) (n : ℕ) → n ≤ length ls → joined (map events_of (take n ls)) ≡ events_below ls n
joined_below ls zero within = refl
joined_below ls (suc n) within =
    let more : take (suc n) ls ≡ take n ls ++ line ls n ∷ [] = rw (← add-one) (take_more ls n no_line (omega arith)) in
    ap (λ xs. joined (map events_of xs)) more
    ∙ ap joined (map-append (take n ls) (line ls n ∷ []))
    ∙ joined-append (map events_of (take n ls)) ((line ls n).events ∷ [])
    ∙ ap₂ (λ (xs ys : List TimedMessage). xs ++ ys) (joined_below ls n (omega arith)) (append-nil (line ls n).events)

-- all lines
joined_all : (ls : List Line) → joined (map events_of ls) ≡ events_below ls (length ls)
joined_all ls =
    ap (λ xs. joined (map events_of xs)) (sym (take_all (length ls) ls (omega arith))) ∙ joined_below ls (length ls) (omega arith)

-- ---- each line is its process's own

-- a list whose earlier events are before its later ones rises
rises_from : (d : TimedMessage) (xs : List TimedMessage)
    → ((i j : ℕ) → i < j → j < length xs → Before (get_or xs i d) (get_or xs j d)) → Rises xs
rises_from d [] each = tt
rises_from d (x ∷ xs) each = (
  in_above x xs first,
  rises_from d xs (λ i j less within. each (suc i) (suc j) (omega arith) (omega arith)),
)
  where
    first : (y : TimedMessage) → In y xs → Before x y
    first y i =
        let r = in_at y d xs i in
        let within = r.below in
        subst (Before x) (sym r.is) (each 0 (suc r.index) (omega arith) (omega arith))

module _ (ls : List Line) (valid : ValidLines ls) where
  in_turn : (j a b : ℕ) → a < b → b < length (line ls j).events
      → (upper (line ls j) a ≡ upper (line ls j) b) ⊎ (upper (line ls j) a ≡ upper (line ls j) b → ⊥)
      → Before (event (line ls j) a) (event (line ls j) b)
  in_turn j a b less within (inl same) =
      let first = valid.numbered j a (omega arith) in
      let second = valid.numbered j b within in
      let i = first.1 in
      let k = second.1 in inr (same, inr (first.0 ∙ sym second.0, omega arith))
  in_turn j a b less within (inr other) =
      let le : upper (line ls j) a ≤ upper (line ls j) b = valid.rising j a b (omega arith) in inl (omega arith)

  own_line : (j : ℕ) → IsOwn j (line ls j).events
  own_line j = record {
    rises = rises_from (event_at (line ls j).end) (line ls j).events
        (λ a b less within. in_turn j a b less within (cases_eq (upper (line ls j) a) (upper (line ls j) b)));
    process = λ e i.
        let r = in_at e (event_at (line ls j).end) (line ls j).events i in
        ap (λ (x : TimedMessage). x.process) r.is ∙ (valid.numbered j r.index r.below).0;
  }

-- what is own at each index is own from there on
own_each : (k : ℕ) (ls : List Line) → ((i : ℕ) → i < length ls → IsOwn (k + i) (line ls i).events)
    → OwnFrom k (map events_of ls)
own_each k [] each = tt
own_each k (l ∷ ls) each = (
  subst (λ (n : ℕ). IsOwn n l.events) first (each 0 (omega arith)),
  own_each (suc k) ls (λ i within. subst (λ (n : ℕ). IsOwn n (line ls i).events) (next i) (each (suc i) (omega arith))),
)
  where
    first : k + 0 ≡ k
    first = omega arith

    next : (i : ℕ) → k + suc i ≡ suc k + i
    next i = omega arith

-- ---- at first

-- of processes that have not started their whole lines are left
pub lefts-fresh : (p : PlanParts) (room : ℕ) (ls : List Line) (ss : List Lane) → length ss ≡ length ls
    → ((k : ℕ) → k < length ss → IsFresh room (lane ss k)) → lefts p ls ss ≡ map events_of ls
lefts-fresh p room [] ss same fresh = refl
lefts-fresh p room (l ∷ ls) [] same fresh = absurd (omega arith)
lefts-fresh p room (l ∷ ls) (s ∷ ss) same fresh =
    let is = fresh 0 (omega arith) in
    ap₂ (λ (xs : List TimedMessage) (xss : List (List TimedMessage)). xs ∷ xss) (rw (is.events, is.strand) refl)
    (lefts-fresh p room ls ss (omega arith) (λ k within. fresh (suc k) (omega arith)))

-- and so all of the piece
pub opens : (p : PlanParts) (room : ℕ) (ls : List Line) (ss : List Lane) → ValidLines ls → length ss ≡ length ls
    → ((k : ℕ) → k < length ss → IsFresh room (lane ss k)) → Playing ls [] (lefts p ls ss)
opens p room ls ss valid same fresh =
    let all = lefts-fresh p room ls ss same fresh in record {
      whole = ap (λ xss. sorted (joined xss)) all ∙ ap sorted (joined_all ls);
      own = subst (OwnFrom 0) (sym all)
          (own_each 0 ls (λ i within. subst (λ (n : ℕ). IsOwn n (line ls i).events) (zero_add i) (own_line ls valid i)));
    }
  where
    zero_add : (i : ℕ) → i ≡ 0 + i
    zero_add i = omega arith
