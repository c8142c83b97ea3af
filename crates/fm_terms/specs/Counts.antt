-- A count of the grammar: NUMBER | "(" expr ")" "max" NUMBER.
use Rattle.std.specs.Prelude.{List, ◌∷◌}
use Rattle.fm_lex.specs.declared.keyword.Keyword.TheVariants.{Max}
use Rattle.fm_lex.specs.Tokens.{Lexed}
use Rattle.fm_grammar.specs.declared.number.Number.{Number}
use Rattle.fm_grammar.specs.declared.length.Length.TheVariants.{Ticks}
use Rattle.fm_grammar.specs.Score.{Leaf, Postfix, Duration}
use Rattle.fm_grammar.specs.Score as tree
use Rattle.fm_grammar.specs.View.{expr_view}
use Rattle.fm_grammar.specs.Grammar.{NumForm, ExprForm}
use Rattle.fm_grammar.specs.Signs.{open_parenthesis, close_parenthesis, tok, key, num}
use Rattle.fm_grammar.specs.Spelling.{expr_text}
use Rattle.fm_grammar.specs.Standing.{num_tree, expr_tree}
use Rattle.fm_terms.specs.declared.count.Count as code_count
use Rattle.fm_terms.specs.declared.count.Count.TheVariants as counts

-- its forms
pub data CountForm : Type 0 where
  fixed : NumForm → CountForm
  drawn : (opens : Leaf) → ExprForm → (closes max : Leaf) → NumForm → CountForm

-- a count as plain data
pub data CountTree : Type 0 where
  fixed_tree : Number → CountTree
  drawn_tree : Postfix → Number → CountTree

-- its tokens
abbrev pub count_text : CountForm → List Lexed → List Lexed
count_text (fixed n) next = num n ∷ next
count_text (drawn o e c m n) next =
    tok open_parenthesis o ∷ expr_text e (tok close_parenthesis c ∷ key Max m ∷ num n ∷ next)

-- what it stands for
abbrev pub count_tree : CountForm → CountTree
count_tree (fixed n) = fixed_tree (num_tree n)
count_tree (drawn o e c m n) = drawn_tree (expr_tree e) (num_tree n)

-- what a count of the code stands for
abbrev pub count_view : code_count.Count → CountTree
count_view (counts.Fixed n) = fixed_tree n
count_view (counts.Drawn e n) = drawn_tree (expr_view e) n

-- a duration of so many ticks
abbrev pub timed_view : CountTree → Duration
timed_view (fixed_tree n) = tree.fixed (Ticks n)
timed_view (drawn_tree e n) = tree.Duration.computed e n
