-- Stacks of values: their last element, and how many of them a node takes.
use Rattle.std.proofs.Common.{◌≡◌, ℕ, ◌≤◌, List, [], ◌∷◌, ◌++◌, length, refl, sym, ap, arith, length-append}
use Rattle.std.specs.Prelude.{Some, None}
use Rattle.fm_value.specs.declared.node.Node.{Node}
use Rattle.fm_value.specs.declared.node.Node.TheVariants.{Literal, Register, Index, Negate, Add, Subtract, Multiply, Divide, Remain, Pick, Min, Max, Less, Same}
use Rattle.fm_value.specs.declared.operation.Operation.{Operation}
use Rattle.fm_value.specs.Tree.{Tree, one_taken, two_taken, grown}
use Rattle.fm_value.specs.Value.{Readable, tree_value}
use Rattle.fm_value.specs.Stack.{stack_of, operand_count}

-- ---- lists by their last element

-- a list and an element behind it
pub record Split {A : Type 0} (xs ys : List A) (x y : A) : Type 0 where
  pub front : xs ≡ ys
  pub last : x ≡ y

heads : {A : Type 0} (x y : A) (xs ys : List A) → x ∷ xs ≡ y ∷ ys → (x ≡ y) × (xs ≡ ys)
heads x y xs ys e = (cc, cc)

no_room : {A : Type 0} (xs : List A) (x : A) → [] ≡ xs ++ x ∷ [] → ⊥
no_room xs x e = let lengths : 0 ≡ length (xs ++ x ∷ []) = ap length e in omega (arith, length-append xs (x ∷ []))

-- equal lists have equal fronts and equal last elements
pub split : {A : Type 0} (xs ys : List A) (x y : A) → xs ++ x ∷ [] ≡ ys ++ y ∷ [] → Split xs ys x y
split [] [] x y e = record { front = refl; last = (heads x y [] [] e).0 }
split [] (b ∷ ys) x y e = absurd (no_room ys y (heads x b [] (ys ++ y ∷ []) e).1)
split (a ∷ xs) [] x y e = absurd (no_room xs x (sym (heads a y (xs ++ x ∷ []) [] e).1))
split (a ∷ xs) (b ∷ ys) x y e =
    let both = heads a b (xs ++ x ∷ []) (ys ++ y ∷ []) e in
    let more = split xs ys x y both.1 in
    record { front = λ i. both.0 i ∷ more.front i; last = more.last }

pub none_some : (ys : List Tree) → None ≡ Some ys → ⊥
none_some ys e = cc

-- ---- how many there are

-- there is one value for each tree
pub length-stack_of : (r : Readable) (s : ℕ) (ts : List Tree) → length (stack_of r s ts).values ≡ length ts
length-stack_of r s [] = refl
length-stack_of r s (t ∷ ts) =
    let more = length-stack_of r s ts in
    let top = tree_value r t (stack_of r s ts).state in
    omega (arith, length-append (stack_of r s ts).values (top.value ∷ []))

one_there : (f : Tree → Tree) (ts more : List Tree) → one_taken f ts ≡ Some more → 1 ≤ length ts
one_there f [] more g = absurd (none_some more g)
one_there f (t ∷ ts) more g = omega arith

two_there : (o : Operation) (ts more : List Tree) → two_taken o ts ≡ Some more → 2 ≤ length ts
two_there o [] more g = absurd (none_some more g)
two_there o (u ∷ []) more g = absurd (none_some more g)
two_there o (u ∷ t ∷ ts) more g = omega arith

-- a node that makes a tree has its operands
pub operands_there : (n : Node) (ts more : List Tree) → grown n ts ≡ Some more → operand_count n ≤ length ts
operands_there (Literal n) ts more g = omega arith
operands_there (Register k) ts more g = omega arith
operands_there (Index k) ts more g = omega arith
operands_there Negate ts more g = one_there _ ts more g
operands_there Pick ts more g = one_there _ ts more g
operands_there Add ts more g = two_there _ ts more g
operands_there Subtract ts more g = two_there _ ts more g
operands_there Multiply ts more g = two_there _ ts more g
operands_there Divide ts more g = two_there _ ts more g
operands_there Remain ts more g = two_there _ ts more g
operands_there Min ts more g = two_there _ ts more g
operands_there Max ts more g = two_there _ ts more g
operands_there Less ts more g = two_there _ ts more g
operands_there Same ts more g = two_there _ ts more g
