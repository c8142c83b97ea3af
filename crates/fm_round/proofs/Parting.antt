-- Each list gives up a front: where all that is given up is before all that stays, it comes first in the order.
use Rattle.std.proofs.Common.{◌≡◌, ◌⊎◌, ℕ, suc, ◌≤◌, List, [], ◌∷◌, ◌++◌, map, refl, inl, inr, ⊎_elim, arith}
use Rattle.fm_msg.specs.Event.{TimedMessage}
use Rattle.fm_line.specs.Piece.{Before, In, Rises, sorted, Ordered}
use Rattle.fm_line.proofs.Members.{in_each, in_left, in_right, in_either}
use Rattle.fm_line.proofs.Pieces.{ordered_append}
use Rattle.fm_line.proofs.Rising.{above_in, in_above, rises_apart, rises_right}
use Rattle.fm_line.proofs.Sorting.{in_sorted, settled_is, sorted_in, sorted_rises}
use Rattle.fm_round.specs.Lefts.{IsOwn, OwnFrom, joined}

-- a list in two parts
pub record Parted : Type 0 where
  pub front : List TimedMessage
  pub back : List TimedMessage

abbrev pub front_of : Parted → List TimedMessage
front_of p = p.front

abbrev pub back_of : Parted → List TimedMessage
back_of p = p.back

abbrev pub whole_of : Parted → List TimedMessage
whole_of p = p.front ++ p.back

-- ---- rising lists

-- the front of a rising list rises
pub rises_left : (xs ys : List TimedMessage) → Rises (xs ++ ys) → Rises xs
rises_left [] ys r = tt
rises_left (x ∷ xs) ys r =
    (in_above x xs (λ y i. above_in x y (xs ++ ys) r.0 (in_left y xs ys i)), rises_left xs ys r.1)

-- two rising lists, of which the first is before the second, rise together
pub rises_append : (xs ys : List TimedMessage) → Rises xs → Rises ys
    → ((x y : TimedMessage) → In x xs → In y ys → Before x y) → Rises (xs ++ ys)
rises_append [] ys a b f = b
rises_append (x ∷ xs) ys a b f = (
  in_above x (xs ++ ys) (λ y i. across y (in_either y xs ys i)),
  rises_append xs ys a.1 b (λ u v i j. f u v (inr i) j),
)
  where
    across : (y : TimedMessage) → (In y xs) ⊎ (In y ys) → Before x y
    across y (inl i) = above_in x y xs a.0 i
    across y (inr j) = f x y (inl refl) j

-- what rises stands in the order of its processes
pub ordered_rises : (xs : List TimedMessage) → Rises xs → Ordered xs
ordered_rises [] r = tt
ordered_rises (x ∷ xs) r = (
  in_each (λ y. y.process ≡ x.process → Before x y) xs (λ y i same. above_in x y xs r.0 i),
  ordered_rises xs r.1,
)

-- ---- own events

-- the front of a process's own events
pub own_front : (k : ℕ) (xs ys : List TimedMessage) → IsOwn k (xs ++ ys) → IsOwn k xs
own_front k xs ys own = record {
  rises = rises_left xs ys own.rises;
  process = λ e i. own.process e (in_left e xs ys i);
}

-- the back of a process's own events
pub own_back : (k : ℕ) (xs ys : List TimedMessage) → IsOwn k (xs ++ ys) → IsOwn k ys
own_back k xs ys own = record {
  rises = rises_right xs ys own.rises;
  process = λ e i. own.process e (in_right e xs ys i);
}

-- no event of these lists is of a process below k
pub own_from : (k : ℕ) (xss : List (List TimedMessage)) (e : TimedMessage) → OwnFrom k xss → In e (joined xss)
    → k ≤ e.process
own_from k [] e own i = absurd i
own_from k (xs ∷ xss) e own i =
    ⊎_elim (λ (j : In e xs). let is = own.0.process e j in k_at is)
    (λ (j : In e (joined xss)). let above = own_from (suc k) xss e own.1 j in later above) (in_either e xs (joined xss) i)
  where
    k_at : e.process ≡ k → k ≤ e.process
    k_at is = omega arith

    later : suc k ≤ e.process → k ≤ e.process
    later above = omega arith

-- own events of several processes stand in the order of their processes
pub own_ordered : (k : ℕ) (xss : List (List TimedMessage)) → OwnFrom k xss → Ordered (joined xss)
own_ordered k [] own = tt
own_ordered k (xs ∷ xss) own =
    ordered_append xs (joined xss) (ordered_rises xs own.0.rises) (own_ordered (suc k) xss own.1)
    (λ x y i j same.
    let here = own.0.process x i in let there = own_from (suc k) xss y own.1 j in absurd (omega arith))

-- ---- the parts of several lists

pub own_fronts : (k : ℕ) (ps : List Parted) → OwnFrom k (map whole_of ps) → OwnFrom k (map front_of ps)
own_fronts k [] own = tt
own_fronts k (p ∷ ps) own = (own_front k p.front p.back own.0, own_fronts (suc k) ps own.1)

pub own_backs : (k : ℕ) (ps : List Parted) → OwnFrom k (map whole_of ps) → OwnFrom k (map back_of ps)
own_backs k [] own = tt
own_backs k (p ∷ ps) own = (own_back k p.front p.back own.0, own_backs (suc k) ps own.1)

-- what is in the lists is in a front or in a back
pub in_a_part : (ps : List Parted) (e : TimedMessage) → In e (joined (map whole_of ps))
    → (In e (joined (map front_of ps))) ⊎ (In e (joined (map back_of ps)))
in_a_part [] e i = absurd i
in_a_part (p ∷ ps) e i = outer (in_either e (p.front ++ p.back) (joined (map whole_of ps)) i) (in_a_part ps e)
  where
    inner : (In e p.front) ⊎ (In e p.back)
        → (In e (p.front ++ joined (map front_of ps))) ⊎ (In e (p.back ++ joined (map back_of ps)))
    inner (inl j) = inl (in_left e p.front (joined (map front_of ps)) j)
    inner (inr j) = inr (in_left e p.back (joined (map back_of ps)) j)

    behind : (In e (joined (map front_of ps))) ⊎ (In e (joined (map back_of ps)))
        → (In e (p.front ++ joined (map front_of ps))) ⊎ (In e (p.back ++ joined (map back_of ps)))
    behind (inl j) = inl (in_right e p.front (joined (map front_of ps)) j)
    behind (inr j) = inr (in_right e p.back (joined (map back_of ps)) j)

    outer : (In e (p.front ++ p.back)) ⊎ (In e (joined (map whole_of ps)))
        → (In e (joined (map whole_of ps)) → (In e (joined (map front_of ps))) ⊎ (In e (joined (map back_of ps))))
        → (In e (p.front ++ joined (map front_of ps))) ⊎ (In e (p.back ++ joined (map back_of ps)))
    outer (inl j) further = inner (in_either e p.front p.back j)
    outer (inr j) further = behind (further j)

-- what is in a front is in the lists
pub front_in : (ps : List Parted) (e : TimedMessage) → In e (joined (map front_of ps)) → In e (joined (map whole_of ps))
front_in [] e i = absurd i
front_in (p ∷ ps) e i =
    ⊎_elim
    (λ (j : In e p.front). in_left e (p.front ++ p.back) (joined (map whole_of ps)) (in_left e p.front p.back j))
    (λ (j : In e (joined (map front_of ps))). in_right e (p.front ++ p.back) (joined (map whole_of ps)) (front_in ps e j))
    (in_either e p.front (joined (map front_of ps)) i)

-- what is in a back is in the lists
pub back_in : (ps : List Parted) (e : TimedMessage) → In e (joined (map back_of ps)) → In e (joined (map whole_of ps))
back_in [] e i = absurd i
back_in (p ∷ ps) e i =
    ⊎_elim
    (λ (j : In e p.back). in_left e (p.front ++ p.back) (joined (map whole_of ps)) (in_right e p.front p.back j))
    (λ (j : In e (joined (map back_of ps))). in_right e (p.front ++ p.back) (joined (map whole_of ps)) (back_in ps e j))
    (in_either e p.back (joined (map back_of ps)) i)

-- of one process, what is in a front is before what is in a back
pub same_process : (k : ℕ) (ps : List Parted) (x y : TimedMessage) → OwnFrom k (map whole_of ps)
    → In x (joined (map front_of ps)) → In y (joined (map back_of ps)) → x.process ≡ y.process → Before x y
same_process k [] x y own i j same = absurd i
same_process k (p ∷ ps) x y own i j same =
    pick (in_either x p.front (joined (map front_of ps)) i) (in_either y p.back (joined (map back_of ps)) j)
    (λ a b. same_process (suc k) ps x y own.1 a b same)
  where
    pick : (In x p.front) ⊎ (In x (joined (map front_of ps))) → (In y p.back) ⊎ (In y (joined (map back_of ps)))
        → (In x (joined (map front_of ps)) → In y (joined (map back_of ps)) → Before x y) → Before x y
    pick (inl a) (inl b) further = rises_apart p.front p.back x y own.0.rises a b
    pick (inl a) (inr b) further =
        let here = own.0.process x (in_left x p.front p.back a) in
        let there = own_from (suc k) (map back_of ps) y (own_backs (suc k) ps own.1) b in absurd (omega arith)
    pick (inr a) (inl b) further =
        let here = own.0.process y (in_right y p.front p.back b) in
        let there = own_from (suc k) (map front_of ps) x (own_fronts (suc k) ps own.1) a in absurd (omega arith)
    pick (inr a) (inr b) further = further a b

-- ---- the order of the parts

-- each event of a front is before each event of a back that is not of its process
abbrev pub FrontsFirst : List Parted → Type 0
FrontsFirst ps = (x y : TimedMessage) → In x (joined (map front_of ps)) → In y (joined (map back_of ps))
    → (x.process ≡ y.process) ⊎ (Before x y)

-- two ordered lists, of which the first is before the second, come one after the other where both are put in order
pub sorted_two : (ws fs bs : List TimedMessage) → Ordered ws → Ordered fs → Ordered bs
    → ((x y : TimedMessage) → In x fs → In y bs → Before x y)
    → ((x : TimedMessage) → In x fs → In x ws) → ((x : TimedMessage) → In x bs → In x ws)
    → ((x : TimedMessage) → In x ws → (In x fs) ⊎ (In x bs)) → sorted fs ++ sorted bs ≡ sorted ws
sorted_two ws fs bs whole front back before in_front in_back in_parts =
    settled_is ws (sorted fs ++ sorted bs) whole
    (rises_append (sorted fs) (sorted bs) (sorted_rises fs front) (sorted_rises bs back)
    (λ x y i j. before x y (sorted_in x fs i) (sorted_in y bs j)))
    (λ x i. ⊎_elim (λ (j : In x (sorted fs)). in_front x (sorted_in x fs j))
    (λ (j : In x (sorted bs)). in_back x (sorted_in x bs j)) (in_either x (sorted fs) (sorted bs) i))
    (λ x i. ⊎_elim (λ (j : In x fs). in_left x (sorted fs) (sorted bs) (in_sorted x fs j))
    (λ (j : In x bs). in_right x (sorted fs) (sorted bs) (in_sorted x bs j)) (in_parts x i))

-- the fronts in their order, and then the backs, are the whole lists in their order
pub sorted_parts : (k : ℕ) (ps : List Parted) → OwnFrom k (map whole_of ps) → FrontsFirst ps
    → sorted (joined (map front_of ps)) ++ sorted (joined (map back_of ps)) ≡ sorted (joined (map whole_of ps))
sorted_parts k ps own first =
    sorted_two (joined (map whole_of ps)) (joined (map front_of ps)) (joined (map back_of ps))
    (own_ordered k (map whole_of ps) own)
    (own_ordered k (map front_of ps) (own_fronts k ps own))
    (own_ordered k (map back_of ps) (own_backs k ps own))
    (λ x y i j. ⊎_elim (λ (same : x.process ≡ y.process). same_process k ps x y own i j same)
    (λ (b : Before x y). b) (first x y i j))
    (front_in ps) (back_in ps) (in_a_part ps)
