-- Postfix lists and their trees.
use Rattle.std.proofs.Common.{◌≡◌, List, [], ◌∷◌, ◌++◌, refl, sym, ap, ◌∙◌, append_assoc}
use Rattle.std.specs.Prelude.{Option, Some, None}
use Rattle.std.specs.Option.{option_and_then}
use Rattle.std.proofs.lemmas.List.{append-nil}
use Rattle.fm_value.specs.declared.node.Node.{Node}
use Rattle.fm_value.specs.declared.node.Node.TheVariants.{Literal, Register, Index, Negate, Add, Subtract, Multiply, Divide, Remain, Pick, Min, Max, Less, Same}
use Rattle.fm_value.specs.declared.operation.Operation.{Operation}
use Rattle.fm_value.specs.declared.operation.Operation.TheVariants as op
use Rattle.fm_value.specs.Tree.{Tree, literal, register, index, negated, picked, joined, node_of, postfix, one_taken, two_taken, grown, grown_by, only_tree, tree_of}

-- ---- from a tree to its list and back

grown_by_option : (ms : List Node) (o : Option (List Tree)) (p : Option (List Tree)) → o ≡ p
    → option_and_then (grown_by ms) o ≡ option_and_then (grown_by ms) p
grown_by_option ms o p e = ap (option_and_then (grown_by ms)) e

and_then_twice : (ns ms : List Node) (o : Option (List Tree))
    → ((ts : List Tree) → grown_by (ns ++ ms) ts ≡ option_and_then (grown_by ms) (grown_by ns ts))
    → option_and_then (grown_by (ns ++ ms)) o ≡ option_and_then (grown_by ms) (option_and_then (grown_by ns) o)
and_then_twice ns ms None f = refl
and_then_twice ns ms (Some ts) f = f ts

-- two lists of nodes are taken one after the other
pub grown_by-append : (ns ms : List Node) (ts : List Tree)
    → grown_by (ns ++ ms) ts ≡ option_and_then (grown_by ms) (grown_by ns ts)
grown_by-append [] ms ts = refl
grown_by-append (n ∷ ns) ms ts = and_then_twice ns ms (grown n ts) (grown_by-append ns ms)

grown-node_of : (o : Operation) (t u : Tree) (ts : List Tree) → grown (node_of o) (u ∷ t ∷ ts) ≡ Some (joined o t u ∷ ts)
grown-node_of op.Add t u ts = refl
grown-node_of op.Subtract t u ts = refl
grown-node_of op.Multiply t u ts = refl
grown-node_of op.Divide t u ts = refl
grown-node_of op.Remain t u ts = refl
grown-node_of op.Min t u ts = refl
grown-node_of op.Max t u ts = refl
grown-node_of op.Less t u ts = refl
grown-node_of op.Same t u ts = refl

-- the nodes of a tree put it on top
pub grown_by-postfix : (t : Tree) (ts : List Tree) → grown_by (postfix t) ts ≡ Some (t ∷ ts)
grown_by-postfix (literal n) ts = refl
grown_by-postfix (register k) ts = refl
grown_by-postfix (index k) ts = refl
grown_by-postfix (negated t) ts =
    grown_by-append (postfix t) (Negate ∷ []) ts
    ∙ grown_by_option (Negate ∷ []) _ _ (grown_by-postfix t ts)
grown_by-postfix (picked t) ts =
    grown_by-append (postfix t) (Pick ∷ []) ts
    ∙ grown_by_option (Pick ∷ []) _ _ (grown_by-postfix t ts)
grown_by-postfix (joined o t u) ts =
    grown_by-append (postfix t ++ postfix u) (node_of o ∷ []) ts
    ∙ grown_by_option (node_of o ∷ []) _ _
    (grown_by-append (postfix t) (postfix u) ts
    ∙ grown_by_option (postfix u) _ _ (grown_by-postfix t ts)
    ∙ grown_by-postfix u (t ∷ ts))
    ∙ grown_by_option [] _ _ (grown-node_of o t u ts)

-- each tree is that of its postfix list
pub tree_of-postfix : (t : Tree) → tree_of (postfix t) ≡ Some t
tree_of-postfix t = ap (option_and_then only_tree) (grown_by-postfix t [])

-- ---- from a list to its tree and back

-- the postfix lists of trees, of which the last one is first
abbrev written : List Tree → List Node
written [] = []
written (t ∷ ts) = written ts ++ postfix t

some_same : (xs ys : List Tree) → Some xs ≡ Some ys → xs ≡ ys
some_same xs ys e = cc

none_some : (ys : List Tree) → None ≡ Some ys → ⊥
none_some ys e = cc

leaf_written : (n : Node) (t : Tree) (ts more : List Tree) → postfix t ≡ n ∷ [] → Some (t ∷ ts) ≡ Some more
    → written more ≡ written ts ++ n ∷ []
leaf_written n t ts more is e =
    ap written (sym (some_same (t ∷ ts) more e)) ∙ ap (λ (ns : List Node). written ts ++ ns) is

one_written : (n : Node) (f : Tree → Tree) (ts more : List Tree)
    → ((t : Tree) → postfix (f t) ≡ postfix t ++ n ∷ []) → one_taken f ts ≡ Some more
    → written more ≡ written ts ++ n ∷ []
one_written n f [] more is e = absurd (none_some more e)
one_written n f (t ∷ ts) more is e =
    ap written (sym (some_same (f t ∷ ts) more e)) ∙ ap (λ (ns : List Node). written ts ++ ns) (is t)
    ∙ sym (append_assoc (written ts) (postfix t) (n ∷ []))

two_written : (o : Operation) (ts more : List Tree) → two_taken o ts ≡ Some more
    → written more ≡ written ts ++ node_of o ∷ []
two_written o [] more e = absurd (none_some more e)
two_written o (u ∷ []) more e = absurd (none_some more e)
two_written o (u ∷ t ∷ ts) more e =
    ap written (sym (some_same (joined o t u ∷ ts) more e))
    ∙ sym (append_assoc (written ts) (postfix t ++ postfix u) (node_of o ∷ []))
    ∙ ap (λ (ns : List Node). ns ++ node_of o ∷ []) (sym (append_assoc (written ts) (postfix t) (postfix u)))

-- a node that makes a tree is written behind those before
written-grown : (n : Node) (ts more : List Tree) → grown n ts ≡ Some more → written more ≡ written ts ++ n ∷ []
written-grown (Literal k) ts more e = leaf_written (Literal k) (literal k) ts more refl e
written-grown (Register k) ts more e = leaf_written (Register k) (register k) ts more refl e
written-grown (Index k) ts more e = leaf_written (Index k) (index k) ts more refl e
written-grown Negate ts more e = one_written Negate negated ts more (λ t. refl) e
written-grown Pick ts more e = one_written Pick picked ts more (λ t. refl) e
written-grown Add ts more e = two_written op.Add ts more e
written-grown Subtract ts more e = two_written op.Subtract ts more e
written-grown Multiply ts more e = two_written op.Multiply ts more e
written-grown Divide ts more e = two_written op.Divide ts more e
written-grown Remain ts more e = two_written op.Remain ts more e
written-grown Min ts more e = two_written op.Min ts more e
written-grown Max ts more e = two_written op.Max ts more e
written-grown Less ts more e = two_written op.Less ts more e
written-grown Same ts more e = two_written op.Same ts more e

after_node : (n : Node) (ns : List Node) (ts more : List Tree) (o : Option (List Tree)) → grown n ts ≡ o
    → option_and_then (grown_by ns) o ≡ Some more
    → ((middle : List Tree) → grown_by ns middle ≡ Some more → written more ≡ written middle ++ ns)
    → written more ≡ written ts ++ n ∷ ns
after_node n ns ts more None g e f = absurd (none_some more e)
after_node n ns ts more (Some middle) g e f =
    f middle e ∙ ap (λ (ms : List Node). ms ++ ns) (written-grown n ts middle g)
    ∙ append_assoc (written ts) (n ∷ []) ns

written-grown_by : (ns : List Node) (ts more : List Tree) → grown_by ns ts ≡ Some more → written more ≡ written ts ++ ns
written-grown_by [] ts more e = ap written (sym (some_same ts more e)) ∙ sym (append-nil (written ts))
written-grown_by (n ∷ ns) ts more e = after_node n ns ts more (grown n ts) refl e (λ middle g. written-grown_by ns middle more g)

only_one : (ts : List Tree) (t : Tree) → only_tree ts ≡ Some t → ts ≡ t ∷ []
only_one [] t e = absurd (cc)
only_one (u ∷ []) t e = let same : u ≡ t = cc in ap (λ (v : Tree). v ∷ []) same
only_one (u ∷ v ∷ ts) t e = absurd (cc)

from_stack : (ns : List Node) (t : Tree) (o : Option (List Tree)) → grown_by ns [] ≡ o
    → option_and_then only_tree o ≡ Some t → postfix t ≡ ns
from_stack ns t None g e = absurd (cc)
from_stack ns t (Some ts) g e = ap written (sym (only_one ts t e)) ∙ written-grown_by ns [] ts g

-- a list that has a tree is that tree's postfix list
pub postfix-tree_of : (ns : List Node) (t : Tree) → tree_of ns ≡ Some t → postfix t ≡ ns
postfix-tree_of ns t e = from_stack ns t (grown_by ns []) refl e
