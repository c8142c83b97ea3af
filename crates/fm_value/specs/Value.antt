-- The value of an expression, and which lists of nodes have one.
use Rattle.std.specs.Prelude.{ℕ, ℤ, pos, neg_ℤ, List, length, Bool, true, ◌&&◌, nat_lt, nat_le, Option, Some, None, is_some, slice_index_or}
use Rattle.std.specs.List.{list_all}
use Rattle.fm_value.specs.declared.node.Node.{Node}
use Rattle.fm_value.specs.declared.node.Node.TheVariants.{Literal, Register, Index, Negate, Add, Subtract, Multiply, Divide, Remain, Pick, Min, Max, Less, Same}
use Rattle.fm_value.specs.declared.node.TheConstants.{MAX_VALUE}
use Rattle.fm_value.specs.declared.expr.TheConstants.{MAX_NODES}
use Rattle.fm_value.specs.declared.registers.TheConstants.{REGISTERS}
use Rattle.fm_value.specs.Generator.{next_state, draw_below}
use Rattle.fm_value.specs.Operation.{clamped, operated}
use Rattle.fm_value.specs.Tree.{Tree, literal, register, index, negated, picked, joined, tree_of}

-- a value, and the generator's state after it
pub record Valued : Type 0 where
  pub value : ℤ
  pub state : ℕ

-- what an expression reads: the registers, and the indices of the open loops, the innermost first
pub record Readable : Type 0 where
  pub registers : List ℤ
  pub indices : List ℕ

-- these registers and indices
abbrev pub readable : List ℤ → List ℕ → Readable
readable registers indices = record { registers = registers; indices = indices }

-- the value of a tree from a state of the generator, the left operand before the right one
abbrev pub tree_value : Readable → Tree → ℕ → Valued
tree_value r (literal n) s = record { value = pos n; state = s }
tree_value r (register k) s = record { value = slice_index_or r.registers k (pos 0); state = s }
tree_value r (index k) s = record { value = pos (slice_index_or r.indices k 0); state = s }
tree_value r (negated t) s =
    let x = tree_value r t s in record { value = clamped (neg_ℤ x.value); state = x.state }
tree_value r (picked t) s =
    let x = tree_value r t s in
    let next = next_state x.state in record { value = draw_below x.value next; state = next }
tree_value r (joined o t u) s =
    let x = tree_value r t s in
    let y = tree_value r u x.state in
    record { value = clamped (operated o x.value y.value); state = y.state }

-- the value of a tree that may be missing
abbrev pub value_at : Readable → Option Tree → ℕ → Valued
value_at r None s = record { value = pos 0; state = s }
value_at r (Some t) s = tree_value r t s

-- the value of a postfix list: that of its tree
abbrev pub value_of : Readable → List Node → ℕ → Valued
value_of r ns s = value_at r (tree_of ns) s

-- a node's number is in range, where so many loops are open
abbrev pub node_fits : ℕ → Node → Bool
node_fits loops (Literal n) = nat_le n MAX_VALUE
node_fits loops (Register k) = nat_lt k REGISTERS
node_fits loops (Index k) = nat_lt k loops
node_fits loops Negate = true
node_fits loops Add = true
node_fits loops Subtract = true
node_fits loops Multiply = true
node_fits loops Divide = true
node_fits loops Remain = true
node_fits loops Pick = true
node_fits loops Min = true
node_fits loops Max = true
node_fits loops Less = true
node_fits loops Same = true

-- the list is one expression with its numbers in range, where so many loops are open
abbrev pub is_expr : ℕ → List Node → Bool
is_expr loops ns = nat_le (length ns) MAX_NODES && is_some (tree_of ns) && list_all (node_fits loops) ns
