-- Statements and branches that grow at their end.
use Rattle.std.proofs.Common.{◌≡◌, ℕ, List, [], ◌∷◌, ◌++◌, Option, Result, Ok, Err, map, refl, sym, ap, ◌∙◌, subst}
use Rattle.std.specs.Prelude.{Vec, vec_items, IfOk}
use Rattle.std.specs.declared.alloc.Global.{Global}
use Rattle.std.proofs.lemmas.List.{map-append}
use Rattle.fm_lex.specs.Tokens.{Lexed}
use Rattle.fm_grammar.specs.Score.{Leaf, Body, done, then, Branches, none}
use Rattle.fm_grammar.specs.Score as tree
use Rattle.fm_grammar.specs.View.{PlacedStmt}
use Rattle.fm_grammar.specs.Making.{AreMade, AreForked}
use Rattle.fm_grammar.specs.Grammar.{StmtsForm, no_stmt, stmt, StmtForm, BlockForm, BranchesForm, no_branch, branch, otherwise}
use Rattle.fm_grammar.specs.Signs.{key}
use Rattle.fm_lex.specs.declared.keyword.Keyword.TheVariants.{Branch, Else}
use Rattle.fm_grammar.specs.Spelling.{stmts_text, stmt_text, branches_text, block_text, else_text}
use Rattle.fm_grammar.specs.Standing.{stmts_tree, stmt_spot, stmt_tree, branches_tree, block_tree, else_tree}
use Rattle.fm_grammar.specs.Reads.{Fault}
use Rattle.fm_grammar.specs.Rules.{Sym, one, stmts, branches, block as blocked}
use Rattle.fm_lex.specs.declared.kind.Kind.TheVariants as kinds
use Rattle.fm_grammar.specs.Table.{opened}
use Rattle.fm_terms.specs.declared.fault.ParseFault.{ParseFault}
use Rattle.fm_terms.specs.Follow.{At}
use Rattle.fm_parse.specs.Made.{Made}
use Rattle.fm_parse.specs.Statements.{placed_tree, fork_text, fork_tree}

-- between states that are the same as these
pub between : {S T M : Type 0} (is : S → T → M → S → Type 0) {s r t u : S} {x : T} {m : M} → r ≡ s → t ≡ u → is r x m u
    → is s x m t
between is {s} {r} {t} {u} {x} {m} first last made =
    subst (λ y. is y x m t) first (subst (λ y. is r x m y) (sym last) made)

module _ {S M : Type 0} (is : S → PlacedStmt → M → S → Type 0) where
  -- ---- the block behind an else

  pub else_read : (r : Result (Vec M Global) ParseFault) (w : Leaf) (s r' t : S) (old mid new : List Lexed)
      → old ≡ key Else w ∷ mid → r' ≡ s
      → IfOk r (λ b. Made (AreMade is) block_text block_tree r' b.items t mid new)
      → IfOk r (λ b. Made (AreMade is) else_text else_tree s b.items t old new)
  else_read (Err e) w s r' t old mid new mark same read = tt
  else_read (Ok b) w s r' t old mid new mark same read = record {
    form = otherwise w read.form;
    spells = mark ∙ ap (λ l. key Else w ∷ l) read.spells;
    made = between (AreMade is) same refl read.made;
  }

  -- ---- statements

  abbrev body_with : Body → PlacedStmt → Body
  body_with done x = then x.spot x.what done
  body_with (then s w b) x = then s w (body_with b x)

  more_made : (b : Body) (ms : List M) (s t u : S) (x : PlacedStmt) (m : M) → AreMade is s b ms t → is t x m u
      → AreMade is s (body_with b x) (ms ++ m ∷ []) u
  more_made done [] s t u x m same made = (u, subst (λ y. is y x m u) (sym same) made, refl)
  more_made done (n ∷ ms) s t u x m absent made = absurd absent
  more_made (then p w b) [] s t u x m absent made = absurd absent
  more_made (then p w b) (n ∷ ms) s t u x m first made =
      (first.0, first.1, more_made b ms first.0 t u x m first.2 made)

  abbrev stmts_with : StmtsForm → StmtForm → StmtsForm
  stmts_with no_stmt x = stmt x no_stmt
  stmts_with (stmt s ss) x = stmt s (stmts_with ss x)

  stmts_with_text : (ss : StmtsForm) (x : StmtForm) (next : List Lexed)
      → stmts_text (stmts_with ss x) next ≡ stmts_text ss (stmt_text x next)
  stmts_with_text no_stmt x next = refl
  stmts_with_text (stmt s ss) x next = ap (stmt_text s) (stmts_with_text ss x next)

  stmts_with_tree : (ss : StmtsForm) (x : StmtForm)
      → stmts_tree (stmts_with ss x) ≡ body_with (stmts_tree ss) (placed_tree x)
  stmts_with_tree no_stmt x = refl
  stmts_with_tree (stmt s ss) x = ap (then (stmt_spot s) (stmt_tree s)) (stmts_with_tree ss x)

  -- some statements were read
  pub record Stating (before : S) (made : List M) (behind : S) (start now : List Lexed) (depth : ℕ) : Type 0 where
    pub form : StmtsForm
    pub spells : start ≡ stmts_text form now
    pub are : AreMade is before (stmts_tree form) made behind
    pub leads : (F : Option Fault) (u : ℕ) (below : List Sym) → opened below ≡ depth → At F u (stmts ∷ below) start
        → At F 0 (stmts ∷ below) now

  -- one statement more
  pub one_stated : {s t u : S} (ms ms' : List M) (m : M) (start now new : List Lexed) (depth : ℕ)
      (g : Stating s ms t start now depth) (x : Made is stmt_text placed_tree t m u now new) → ms' ≡ ms ++ m ∷ []
      → ((F : Option Fault) (below : List Sym) → opened below ≡ depth → At F 0 (stmts ∷ below) now
      → At F 0 (stmts ∷ below) new)
      → Stating s ms' u start new depth
  one_stated {s} {t} {u} ms ms' m start now new depth g x more leads = record {
    form = stmts_with g.form x.form;
    spells = g.spells ∙ ap (stmts_text g.form) x.spells ∙ sym (stmts_with_text g.form x.form new);
    are = subst (λ l. AreMade is s (stmts_tree (stmts_with g.form x.form)) l u) (sym more)
        (subst (λ b. AreMade is s b (ms ++ m ∷ []) u) (sym (stmts_with_tree g.form x.form))
        (more_made (stmts_tree g.form) ms s t u (placed_tree x.form) m g.are x.made));
    leads = λ F v below d a. leads F below d (g.leads F v below d a);
  }

  -- ---- branches

  abbrev tree_with : Branches → Body → Branches
  tree_with none x = tree.branch x none
  tree_with (tree.branch b bs) x = tree.branch b (tree_with bs x)

  more_forked : (bs : Branches) (ls : List (List M)) (s t u : S) (b : Body) (ms : List M) → AreForked is s bs ls t
      → AreMade is t b ms u → AreForked is s (tree_with bs b) (ls ++ ms ∷ []) u
  more_forked none [] s t u b ms same made = (u, between (AreMade is) (sym same) refl made, refl)
  more_forked none (l ∷ ls) s t u b ms absent made = absurd absent
  more_forked (tree.branch c bs) [] s t u b ms absent made = absurd absent
  more_forked (tree.branch c bs) (l ∷ ls) s t u b ms first made =
      (first.0, first.1, more_forked bs ls first.0 t u b ms first.2 made)

  abbrev branches_with : BranchesForm → Leaf → BlockForm → BranchesForm
  branches_with no_branch w x = branch w x no_branch
  branches_with (branch v b bs) w x = branch v b (branches_with bs w x)

  branches_with_text : (bs : BranchesForm) (w : Leaf) (x : BlockForm) (next : List Lexed)
      → branches_text (branches_with bs w x) next ≡ branches_text bs (key Branch w ∷ block_text x next)
  branches_with_text no_branch w x next = refl
  branches_with_text (branch v b bs) w x next = ap (λ l. key Branch v ∷ block_text b l) (branches_with_text bs w x next)

  branches_with_tree : (bs : BranchesForm) (w : Leaf) (x : BlockForm)
      → branches_tree (branches_with bs w x) ≡ tree_with (branches_tree bs) (block_tree x)
  branches_with_tree no_branch w x = refl
  branches_with_tree (branch v b bs) w x = ap (tree.branch (block_tree b)) (branches_with_tree bs w x)

  -- a branch and further ones were read
  pub record Branching (before : S) (made : List (Vec M Global)) (behind : S) (start now : List Lexed) (depth : ℕ) : Type 0 where
    pub word : Leaf
    pub first : BlockForm
    pub others : BranchesForm
    pub spells : start ≡ key Branch word ∷ block_text first (branches_text others now)
    pub are : AreForked is before (tree.branch (block_tree first) (branches_tree others)) (map vec_items made) behind
    pub leads : (F : Option Fault) (u : ℕ) (below : List Sym) → opened below ≡ depth
        → At F u (one (kinds.Keyword Branch) ∷ blocked (branches ∷ below)) start → At F 0 (branches ∷ below) now

  -- the first branch
  pub branch_begun : (s r t : S) (b : Vec M Global) (ms : List (Vec M Global)) (x : BlockForm) → r ≡ s → ms ≡ b ∷ []
      → AreMade is r (block_tree x) b.items t
      → AreForked is s (tree.branch (block_tree x) tree.none) (map vec_items ms) t
  branch_begun s r t b ms x same alone made =
      subst (λ l. AreForked is s (tree.branch (block_tree x) tree.none) (map vec_items l) t) (sym alone)
      (t, between (AreMade is) same refl made, refl)

  -- one branch more
  pub one_branched : {s t r u : S} (ms ms' : List (Vec M Global)) (b : Vec M Global) (start now mid new : List Lexed)
      (depth : ℕ) (g : Branching s ms t start now depth) (w : Leaf)
      (x : Made (AreMade is) block_text block_tree r b.items u mid new)
      → now ≡ key Branch w ∷ mid → r ≡ t → ms' ≡ ms ++ b ∷ []
      → ((F : Option Fault) (below : List Sym) → opened below ≡ depth → At F 0 (branches ∷ below) now
      → At F 0 (branches ∷ below) new)
      → Branching s ms' u start new depth
  one_branched {s} {t} {r} {u} ms ms' b start now mid new depth g w x mark same more leads = record {
    word = g.word;
    first = g.first;
    others = branches_with g.others w x.form;
    spells = g.spells ∙ ap (λ l. key Branch g.word ∷ block_text g.first (branches_text g.others l))
        (mark ∙ ap (λ l. key Branch w ∷ l) x.spells)
        ∙ ap (λ l. key Branch g.word ∷ block_text g.first l) (sym (branches_with_text g.others w x.form new));
    are =
        let all = tree.branch (block_tree g.first) (branches_tree (branches_with g.others w x.form)) in
        subst (λ l. AreForked is s all l u)
        (sym (ap (map vec_items) more ∙ map-append vec_items ms (b ∷ [])))
        (subst (λ y. AreForked is s (tree.branch (block_tree g.first) y) (map vec_items ms ++ b.items ∷ []) u)
        (sym (branches_with_tree g.others w x.form))
        (more_forked (tree.branch (block_tree g.first) (branches_tree g.others)) (map vec_items ms) s t u (block_tree x.form)
        b.items g.are (between (AreMade is) same refl x.made)));
    leads = λ F v below d a. leads F below d (g.leads F v below d a);
  }

  -- the whole list
  pub branched : {s t : S} (ms : List (Vec M Global)) (start now : List Lexed) (depth : ℕ) → Branching s ms t start now depth
      → Made (AreForked is) fork_text fork_tree s (map vec_items ms) t start now
  branched ms start now depth g = record {
    form = record { word = g.word; first = g.first; others = g.others };
    spells = g.spells;
    made = g.are;
  }
