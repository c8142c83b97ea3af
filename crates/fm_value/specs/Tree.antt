-- The operand tree of an expression, and the postfix list of a tree.
use Rattle.std.specs.Prelude.{ℕ, List, [], ◌∷◌, ◌++◌, Option, Some, None}
use Rattle.std.specs.Option.{option_and_then}
use Rattle.fm_value.specs.declared.node.Node.{Node}
use Rattle.fm_value.specs.declared.node.Node.TheVariants.{Literal, Register, Index, Negate, Add, Subtract, Multiply, Divide, Remain, Pick, Min, Max, Less, Same}
use Rattle.fm_value.specs.declared.operation.Operation.{Operation}
use Rattle.fm_value.specs.declared.operation.Operation.TheVariants as op

-- an expression with its operands
pub data Tree : Type 0 where
  literal : ℕ → Tree
  register : ℕ → Tree
  index : ℕ → Tree
  negated : Tree → Tree
  picked : Tree → Tree
  joined : Operation → Tree → Tree → Tree

-- the node of an operation
abbrev pub node_of : Operation → Node
node_of op.Add = Add
node_of op.Subtract = Subtract
node_of op.Multiply = Multiply
node_of op.Divide = Divide
node_of op.Remain = Remain
node_of op.Min = Min
node_of op.Max = Max
node_of op.Less = Less
node_of op.Same = Same

-- the nodes of a tree: each behind its operands, the left one first
abbrev pub postfix : Tree → List Node
postfix (literal n) = Literal n ∷ []
postfix (register k) = Register k ∷ []
postfix (index k) = Index k ∷ []
postfix (negated t) = postfix t ++ Negate ∷ []
postfix (picked t) = postfix t ++ Pick ∷ []
postfix (joined o t u) = postfix t ++ postfix u ++ node_of o ∷ []

-- the trees, of which the last one made is first, with the first one taken as operand
abbrev pub one_taken : (Tree → Tree) → List Tree → Option (List Tree)
one_taken f [] = None
one_taken f (t ∷ ts) = Some (f t ∷ ts)

-- the same with two operands, of which the right one is first
abbrev pub two_taken : Operation → List Tree → Option (List Tree)
two_taken o [] = None
two_taken o (u ∷ []) = None
two_taken o (u ∷ t ∷ ts) = Some (joined o t u ∷ ts)

-- the trees after a node, nothing where it lacks an operand
abbrev pub grown : Node → List Tree → Option (List Tree)
grown (Literal n) ts = Some (literal n ∷ ts)
grown (Register k) ts = Some (register k ∷ ts)
grown (Index k) ts = Some (index k ∷ ts)
grown Negate ts = one_taken negated ts
grown Pick ts = one_taken picked ts
grown Add ts = two_taken op.Add ts
grown Subtract ts = two_taken op.Subtract ts
grown Multiply ts = two_taken op.Multiply ts
grown Divide ts = two_taken op.Divide ts
grown Remain ts = two_taken op.Remain ts
grown Min ts = two_taken op.Min ts
grown Max ts = two_taken op.Max ts
grown Less ts = two_taken op.Less ts
grown Same ts = two_taken op.Same ts

-- the trees after a list of nodes
abbrev pub grown_by : List Node → List Tree → Option (List Tree)
grown_by [] ts = Some ts
grown_by (n ∷ ns) ts = option_and_then (grown_by ns) (grown n ts)

-- the tree of a list of one
abbrev pub only_tree : List Tree → Option Tree
only_tree [] = None
only_tree (t ∷ []) = Some t
only_tree (t ∷ u ∷ ts) = None

-- the tree whose postfix list this is, nothing where there is none
abbrev pub tree_of : List Node → Option Tree
tree_of ns = option_and_then only_tree (grown_by ns [])
