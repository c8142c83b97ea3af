-- A list of nodes is evaluated one node at a time: what is held, and what the rest makes of it.
use Rattle.std.proofs.Common.{◌≡◌, ℕ, suc, ◌+◌, ◌<◌, ◌≤◌, List, [], ◌∷◌, length, get_or, drop, Bool, true, false, refl, sym, ap, ◌∙◌, subst, arith, add-one}
use Rattle.std.specs.Prelude.{ℤ, ◌&&◌, nat_le, IsTrue, Option, Some, None, is_some}
use Rattle.std.specs.Option.{option_and_then}
use Rattle.std.specs.List.{list_all}
use Rattle.std.proofs.Math.Seq.{drop-cons, drop-length}
use Rattle.std.proofs.lemmas.Bool.{and_parts, both_ways, leb-true}
use Rattle.std.proofs.lemmas.List.Folds.{list_all_at}
use Rattle.fm_value.specs.declared.node.Node.{Node}
use Rattle.fm_value.specs.declared.expr.TheConstants.{MAX_NODES}
use Rattle.fm_value.specs.Tree.{Tree, grown, grown_by, only_tree, tree_of}
use Rattle.fm_value.specs.Value.{Readable, Valued, tree_value, value_at, value_of, node_fits, is_expr}
use Rattle.fm_value.specs.Stack.{Stacked, stacked, stack_of, operand_count, Computes}
use Rattle.fm_value.proofs.Stacks.{length-stack_of, operands_there}

-- ---- lists of nodes that fit

-- what it takes for a list to be an expression
pub record ExprParts (loops : ℕ) (ns : List Node) : Type 0 where
  pub few : length ns ≤ MAX_NODES
  pub whole : is_some (tree_of ns) ≡ true
  pub each : list_all (node_fits loops) ns ≡ true

-- an expression is short, whole and of nodes that fit
pub expr_parts : (loops : ℕ) (ns : List Node) → IsTrue (is_expr loops ns) → ExprParts loops ns
expr_parts loops ns is =
    let outer = and_parts (nat_le (length ns) MAX_NODES && is_some (tree_of ns)) (list_all (node_fits loops) ns) is in
    let inner = and_parts (nat_le (length ns) MAX_NODES) (is_some (tree_of ns)) outer.0 in
    record { few = leb-true _ _ inner.0; whole = inner.1; each = outer.1 }

-- each node of an expression fits
pub node_fits_at : (loops : ℕ) (ns nodes : List Node) (i : ℕ) (d : Node) → nodes ≡ ns
    → list_all (node_fits loops) ns ≡ true → i < length nodes → node_fits loops (get_or nodes i d) ≡ true
node_fits_at loops ns nodes i d same each lt = by_test (node_fits loops (get_or nodes i d)) refl
  where
    all : list_all (node_fits loops) nodes ≡ true
    all = ap (list_all (node_fits loops)) same ∙ each

    by_test : (b : Bool) → node_fits loops (get_or nodes i d) ≡ b → node_fits loops (get_or nodes i d) ≡ true
    by_test true e = e
    by_test false e = absurd (both_ways _ (list_all_at (node_fits loops) nodes i d lt e) all)

-- ---- evaluation

-- the first i nodes made the trees held, whose values are these
pub record Evaluating (r : Readable) (ns : List Node) (s i : ℕ) (values : List ℤ) (state : ℕ) : Type 0 where
  pub held : List Tree
  pub rest : grown_by (drop i ns) held ≡ grown_by ns []
  pub is : stack_of r s held ≡ stacked values state

-- before the first node nothing is held
pub begun : (r : Readable) (ns : List Node) (s : ℕ) → Evaluating r ns s 0 [] s
begun r ns s = record { held = []; rest = refl; is = refl }

-- what the next node needs is there, and what it computes is held next
pub record Goes (r : Readable) (ns : List Node) (s i : ℕ) (node : Node) (values : List ℤ) (state : ℕ) : Type 0 where
  pub there : operand_count node ≤ length values
  pub on : (new : List ℤ) (after : ℕ) → Computes r node values state new after → Evaluating r ns s (i + 1) new after

module _ (r : Readable) (ns : List Node) (s i : ℕ) (node : Node) (values : List ℤ) (state : ℕ)
    (whole : is_some (tree_of ns) ≡ true) (at : drop i ns ≡ node ∷ drop (suc i) ns)
    (e : Evaluating r ns s i values state) where
  next : option_and_then (grown_by (drop (suc i) ns)) (grown node e.held) ≡ grown_by ns []
  next = ap (λ (ms : List Node). grown_by ms e.held) (sym at) ∙ e.rest

  lacking : None ≡ grown_by ns [] → ⊥
  lacking n = both_ways (is_some (tree_of ns)) (ap (λ (o : Option (List Tree)). is_some (option_and_then only_tree o)) (sym n)) whole

  by_growth : (o : Option (List Tree)) → grown node e.held ≡ o
      → option_and_then (grown_by (drop (suc i) ns)) o ≡ grown_by ns [] → Goes r ns s i node values state
  by_growth None g n = absurd (lacking n)
  by_growth (Some more) g n = record {
    there = (let held = operands_there node e.held more g in
        let many = length-stack_of r s e.held in
        let same = ap (λ (b : Stacked). length b.values) e.is in omega arith);
    on = λ new after computes. record {
      held = more;
      rest = rw add-one n;
      is = computes s e.held more e.is g;
    };
  }

  goes_on : Goes r ns s i node values state
  goes_on = by_growth (grown node e.held) refl next

-- the next node finds its operands, and is evaluated
pub goes : (r : Readable) (ns nodes : List Node) (s i : ℕ) (d : Node) (values : List ℤ) (state : ℕ)
    → nodes ≡ ns → is_some (tree_of ns) ≡ true → i < length nodes → Evaluating r ns s i values state
    → Goes r ns s i (get_or nodes i d) values state
goes r ns nodes s i d values state same whole lt e =
    subst (λ (ms : List Node). Goes r ns s i (get_or ms i d) values state) (sym same)
    (goes_on r ns s i (get_or ns i d) values state whole
    (drop-cons ns i d (subst (λ (ms : List Node). i < length ms) same lt)) e)

-- ---- the end

-- after the last node the only value is that of the whole list
pub record Evaluated (r : Readable) (ns : List Node) (s : ℕ) (values : List ℤ) (state : ℕ) : Type 0 where
  pub only : (value_of r ns s).value ∷ [] ≡ values
  pub after : (value_of r ns s).state ≡ state

module _ (r : Readable) (ns : List Node) (s : ℕ) (values : List ℤ) (state : ℕ)
    (whole : is_some (tree_of ns) ≡ true) where
  by_held : (held : List Tree) → tree_of ns ≡ only_tree held → stack_of r s held ≡ stacked values state
      → Evaluated r ns s values state
  by_held [] only is = absurd (both_ways _ (ap (is_some {T = Tree}) only) whole)
  by_held (t ∷ []) only is =
      let same : value_of r ns s ≡ tree_value r t s = ap (λ (o : Option Tree). value_at r o s) only in
      record {
        only = ap (λ (v : Valued). v.value ∷ []) same ∙ ap (λ (b : Stacked). b.values) is;
        after = ap (λ (v : Valued). v.state) same ∙ ap (λ (b : Stacked). b.state) is;
      }
  by_held (t ∷ u ∷ ts) only is = absurd (both_ways _ (ap (is_some {T = Tree}) only) whole)

-- the whole list is evaluated once all nodes are
pub evaluated : (r : Readable) (ns : List Node) (s i : ℕ) (values : List ℤ) (state : ℕ)
    → is_some (tree_of ns) ≡ true → i ≡ length ns → Evaluating r ns s i values state → Evaluated r ns s values state
evaluated r ns s i values state whole end e =
    let all : Some e.held ≡ grown_by ns [] =
    ap (λ (ms : List Node). grown_by ms e.held) (sym (drop-length ns)) ∙ ap (λ (n : ℕ). grown_by (drop n ns) e.held) (sym end) ∙ e.rest in
    by_held r ns s values state whole e.held (ap (option_and_then only_tree) (sym all)) e.is
