-- The faults of a list, one entry at a time.
use Rattle.std.proofs.Common.{◌≡◌, ℕ, suc, ◌+◌, ◌-◌, ◌<◌, List, [], ◌∷◌, ◌++◌, drop, get_or, length, refl, sym, ap, ◌∙◌, Some, None, ◌≤◌}
use Rattle.std.proofs.Common.{arith, add-one}
use Rattle.std.proofs.lemmas.List.{append-nil}
use Rattle.std.proofs.Math.Seq.{drop-cons}
use Rattle.fm_lex.specs.declared.spot.Spot.{Spot}
use Rattle.fm_value.specs.declared.node.Node.{Node}
use Rattle.fm_value.specs.declared.node.Node.TheVariants.{Literal}
use Rattle.std.proofs.Math.ListN.{drop_of_length-le}
use Rattle.fm_value.specs.declared.expr.Spot2.{Spot2}
use Rattle.fm_meaning.specs.Fault.{NumberedFault}
use Rattle.fm_meaning.specs.Faults.{first_found}
use Rattle.fm_meaning.specs.Ranges.{each_faults, node_faults}

-- a fault of the first list comes first
pub first_of_both : (a b : List NumberedFault) (f : NumberedFault) → Some f ≡ first_found a
    → Some f ≡ first_found (a ++ b)
first_of_both [] b f e = cc
first_of_both (x ∷ a) b f e = e

-- a first list without faults plays no part
pub first_of_second : (a b : List NumberedFault) → None ≡ first_found a → first_found b ≡ first_found (a ++ b)
first_of_second [] b e = refl
first_of_second (x ∷ a) b e = cc

-- an entry that is not one too many
pub each_more : {A : Type 0} (f : A → List NumberedFault) (s : A → Spot) (most i : ℕ) (xs : List A) (d : A)
    → i < length xs → i < most
    → each_faults f s (most - i) (drop i xs) ≡ f (get_or xs i d) ++ each_faults f s (most - (i + 1)) (drop (i + 1) xs)
each_more f s most i xs d h m =
    let left : most - i ≡ suc (most - (i + 1)) = omega arith in
    ap (λ n. each_faults f s n (drop i xs)) left
    ∙ ap (λ l. each_faults f s (suc (most - (i + 1))) l) (drop-cons xs i d h)
    ∙ ap (λ n. f (get_or xs i d) ++ each_faults f s (most - (i + 1)) (drop n xs)) (sym (add-one i))

-- a node with its spot, and those behind it
node_first : (n : Node) (s : Spot2) (ns : List Node) (ss : List Spot2)
    → node_faults (n ∷ ns) (s ∷ ss) ≡ node_faults (n ∷ []) (s ∷ []) ++ node_faults ns ss
node_first (Literal n) s ns ss = ap (λ l. l ++ node_faults ns ss) (sym (append-nil _))
node_first n s ns ss = refl

-- the nodes from one on
pub node_more : (ns : List Node) (ss : List Spot2) (i : ℕ) (n : Node) (s : Spot2) → i < length ns → i < length ss
    → node_faults (drop i ns) (drop i ss)
    ≡ node_faults (get_or ns i n ∷ []) (get_or ss i s ∷ []) ++ node_faults (drop (i + 1) ns) (drop (i + 1) ss)
node_more ns ss i n s h g =
    ap (λ l. node_faults l (drop i ss)) (drop-cons ns i n h)
    ∙ ap (λ l. node_faults (get_or ns i n ∷ drop (suc i) ns) l) (drop-cons ss i s g)
    ∙ node_first (get_or ns i n) (get_or ss i s) (drop (suc i) ns) (drop (suc i) ss)
    ∙ ap (λ k. node_faults (get_or ns i n ∷ []) (get_or ss i s ∷ []) ++ node_faults (drop k ns) (drop k ss)) (sym (add-one i))

-- no spots are left
pub node_end : (ns : List Node) (ss : List Spot2) (i : ℕ) → length ss ≤ i → node_faults (drop i ns) (drop i ss) ≡ []
node_end ns ss i h = ap (λ l. node_faults (drop i ns) l) (drop_of_length-le ss h) ∙ no_spots (drop i ns)
  where
    no_spots : (l : List Node) → node_faults l [] ≡ []
    no_spots [] = refl
    no_spots (Literal n ∷ l) = refl
    no_spots (n ∷ l) = refl
