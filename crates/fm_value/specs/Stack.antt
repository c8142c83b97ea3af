-- A stack of values that stands for a stack of trees.
use Rattle.std.specs.Prelude.{◌≡◌, ℕ, ℤ, List, [], ◌∷◌, ◌++◌, Some}
use Rattle.fm_value.specs.declared.node.Node.{Node}
use Rattle.fm_value.specs.declared.node.Node.TheVariants.{Literal, Register, Index, Negate, Add, Subtract, Multiply, Divide, Remain, Pick, Min, Max, Less, Same}
use Rattle.fm_value.specs.declared.operation.Operation.{Operation}
use Rattle.fm_value.specs.Operation.{clamped, operated}
use Rattle.fm_value.specs.Tree.{Tree, grown}
use Rattle.fm_value.specs.Value.{Readable, tree_value}

-- values, the last one pushed at the end, and the generator's state
pub record Stacked : Type 0 where
  pub values : List ℤ
  pub state : ℕ

-- these values and this state
abbrev pub stacked : List ℤ → ℕ → Stacked
stacked values state = record { values = values; state = state }

-- the values of the trees, of which the last one made is first, evaluated in turn from a state
abbrev pub stack_of : Readable → ℕ → List Tree → Stacked
stack_of r s [] = stacked [] s
stack_of r s (t ∷ ts) =
    let below = stack_of r s ts in
    let top = tree_value r t below.state in
    stacked (below.values ++ top.value ∷ []) top.state

-- how many operands a node takes
abbrev pub operand_count : Node → ℕ
operand_count (Literal n) = 0
operand_count (Register k) = 0
operand_count (Index k) = 0
operand_count Negate = 1
operand_count Pick = 1
operand_count Add = 2
operand_count Subtract = 2
operand_count Multiply = 2
operand_count Divide = 2
operand_count Remain = 2
operand_count Min = 2
operand_count Max = 2
operand_count Less = 2
operand_count Same = 2

-- two values are taken off, and the result is that of the operation
pub record Joins (o : Operation) (old new : List ℤ) (result : ℤ) : Type 0 where
  pub left : ℤ
  pub right : ℤ
  pub taken : old ≡ (new ++ left ∷ []) ++ right ∷ []
  pub is : result ≡ clamped (operated o left right)

-- values that stood for trees stand for the trees after the node
abbrev pub Computes : Readable → Node → List ℤ → ℕ → List ℤ → ℕ → Type 0
Computes r n old before new after =
    (s : ℕ) (ts more : List Tree) → stack_of r s ts ≡ stacked old before → grown n ts ≡ Some more
    → stack_of r s more ≡ stacked new after
