-- What a node makes of a stack of values.
use Rattle.std.proofs.Common.{◌≡◌, ℕ, List, [], ◌∷◌, ◌++◌, sym, ap, ◌∙◌}
use Rattle.std.specs.Prelude.{ℤ, Some, None}
use Rattle.fm_value.specs.declared.node.Node.{Node}
use Rattle.fm_value.specs.declared.operation.Operation.{Operation}
use Rattle.fm_value.specs.Operation.{clamped, operated}
use Rattle.fm_value.specs.Tree.{Tree, joined, grown, two_taken}
use Rattle.fm_value.specs.Value.{Readable, Valued, tree_value}
use Rattle.fm_value.specs.Stack.{Stacked, stacked, stack_of, Joins, Computes}
use Rattle.fm_value.proofs.Stacks.{none_some, split}

some_same : (xs ys : List Tree) → Some xs ≡ Some ys → xs ≡ ys
some_same xs ys e = cc

-- a value is put on top
pub put : (r : Readable) (n : Node) (t : Tree) (v : ℤ) (old : List ℤ) (state : ℕ)
    → ((ts : List Tree) → grown n ts ≡ Some (t ∷ ts)) → ((s : ℕ) → tree_value r t s ≡ record { value = v; state = s })
    → Computes r n old state (old ++ v ∷ []) state
put r n t v old state grows is = λ s ts more stands made.
    let same : t ∷ ts ≡ more = some_same (t ∷ ts) more (sym (grows ts) ∙ made) in
    ap (stack_of r s) (sym same)
    ∙ ap (λ (b : Stacked). stacked (b.values ++ (tree_value r t b.state).value ∷ []) (tree_value r t b.state).state) stands
    ∙ ap (λ (x : Valued). stacked (old ++ x.value ∷ []) x.state) (is state)

-- the two values on top are joined
module _ (r : Readable) (o : Operation) (old new : List ℤ) (result : ℤ) (state s : ℕ) (j : Joins o old new result) where
  by_top : (ts more : List Tree) → stack_of r s ts ≡ stacked old state → two_taken o ts ≡ Some more
      → stack_of r s more ≡ stacked (new ++ result ∷ []) state
  by_top [] more stands made = absurd (none_some more made)
  by_top (u ∷ []) more stands made = absurd (none_some more made)
  by_top (u ∷ t ∷ ts) more stands made =
      let below = stack_of r s ts in
      let x = tree_value r t below.state in
      let y = tree_value r u x.state in
      let outer = split (below.values ++ x.value ∷ []) (new ++ j.left ∷ []) y.value j.right
      (ap (λ (b : Stacked). b.values) stands ∙ j.taken) in
      let inner = split below.values new x.value j.left outer.front in
      let at : y.state ≡ state = ap (λ (b : Stacked). b.state) stands in
      ap (stack_of r s) (sym (some_same (joined o t u ∷ ts) more made))
      ∙ (λ i. stacked (inner.front i ++ clamped (operated o (inner.last i) (outer.last i)) ∷ []) (at i))
      ∙ ap (λ v. stacked (new ++ v ∷ []) state) (sym j.is)

pub joins : (r : Readable) (n : Node) (o : Operation) (old new : List ℤ) (result : ℤ) (state : ℕ)
    → ((ts : List Tree) → grown n ts ≡ two_taken o ts) → Joins o old new result
    → Computes r n old state (new ++ result ∷ []) state
joins r n o old new result state grows j = λ s ts more stands made.
    by_top r o old new result state s j ts more stands (sym (grows ts) ∙ made)
