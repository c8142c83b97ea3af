-- Lists that grow at their end, item by item.
use Rattle.std.proofs.Common.{◌≡◌, ℕ, List, [], ◌∷◌, ◌++◌, Option, refl, sym, ap, ◌∙◌}
use Rattle.fm_lex.specs.Tokens.{Lexed}
use Rattle.fm_grammar.specs.Score.{Leaf}
use Rattle.fm_grammar.specs.Grammar.{Mores, no_more, more}
use Rattle.fm_grammar.specs.Signs.{tok, comma}
use Rattle.fm_grammar.specs.Spelling.{mores_text, listed_text}
use Rattle.fm_grammar.specs.Standing.{mores_tree, listed_tree}
use Rattle.fm_grammar.specs.Reads.{Fault}
use Rattle.fm_grammar.specs.Rules.{Sym, Item, item, mores}
use Rattle.fm_terms.specs.Follow.{At, Spelt}

-- a first item and further ones were read
pub record Growing {Form : Type 0} {Tree : Type 0} (text : Form → List Lexed → List Lexed)
    (tree : Form → Tree) (i : Item)
    (xs : List Tree) (start now : List Lexed) : Type 0 where
  pub first : Form
  pub others : Mores Form
  pub spells : start ≡ text first (mores_text text others now)
  pub stands_for : xs ≡ tree first ∷ mores_tree tree others
  pub leads : (F : Option Fault) (u : ℕ) (below : List Sym) → At F u (item i ∷ mores i ∷ below) start
      → At F 0 (mores i ∷ below) now

-- one item more
abbrev pub mores_with : {A : Type 0} → Mores A → Leaf → A → Mores A
mores_with no_more c x = more c x no_more
mores_with (more d y ys) c x = more d y (mores_with ys c x)

pub mores_with_text : {A : Type 0} (text : A → List Lexed → List Lexed) (ys : Mores A) (c : Leaf) (x : A)
    (next : List Lexed)
    → mores_text text (mores_with ys c x) next ≡ mores_text text ys (tok comma c ∷ text x next)
mores_with_text text no_more c x next = refl
mores_with_text text (more d y ys) c x next = ap (λ l. tok comma d ∷ text y l) (mores_with_text text ys c x next)

pub mores_with_tree : {A B : Type 0} (tree : A → B) (ys : Mores A) (c : Leaf) (x : A)
    → mores_tree tree (mores_with ys c x) ≡ mores_tree tree ys ++ tree x ∷ []
mores_with_tree tree no_more c x = refl
mores_with_tree tree (more d y ys) c x = ap (λ l. tree y ∷ l) (mores_with_tree tree ys c x)

-- the list after one item more
pub grown : {Form : Type 0} {Tree : Type 0} (text : Form → List Lexed → List Lexed) (tree : Form → Tree) (i : Item)
    (xs xs' : List Tree) (v : Tree) (start now mid new : List Lexed) (g : Growing text tree i xs start now)
    (c : Leaf) (x : Form)
    → now ≡ tok comma c ∷ mid → mid ≡ text x new → v ≡ tree x → xs' ≡ xs ++ v ∷ []
    → ((F : Option Fault) (below : List Sym) → At F 0 (mores i ∷ below) now → At F 0 (mores i ∷ below) new)
    → Growing text tree i xs' start new
grown text tree i xs xs' v start now mid new g c x mark spells stands more_is leads = record {
  first = g.first;
  others = mores_with g.others c x;
  spells = g.spells ∙ ap (λ l. text g.first (mores_text text g.others l)) (mark ∙ ap (λ l. tok comma c ∷ l) spells)
      ∙ ap (text g.first) (sym (mores_with_text text g.others c x new));
  stands_for = more_is ∙ ap (λ l. l ++ v ∷ []) g.stands_for
      ∙ ap (λ y. tree g.first ∷ (mores_tree tree g.others ++ y ∷ [])) stands
      ∙ ap (λ l. tree g.first ∷ l) (sym (mores_with_tree tree g.others c x));
  leads = λ F u below a. leads F below (g.leads F u below a);
}

-- the whole list
pub listed : {Form : Type 0} {Tree : Type 0} (text : Form → List Lexed → List Lexed) (tree : Form → Tree) (i : Item)
    (xs : List Tree) (start now : List Lexed) → Growing text tree i xs start now
    → Spelt (listed_text text) (listed_tree tree) xs start now
listed text tree i xs start now g = record {
  form = record { first = g.first; others = g.others };
  spells = g.spells;
  stands_for = g.stands_for;
}
