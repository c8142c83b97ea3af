-- A stretch behind its word.
use Rattle.std.specs.Prelude.{List, ◌∷◌}
use Rattle.fm_lex.specs.declared.kind.Kind.TheVariants as kinds
use Rattle.fm_lex.specs.declared.keyword.Keyword.{Keyword}
use Rattle.fm_lex.specs.Tokens.{Lexed}
use Rattle.fm_grammar.specs.declared.number.Number.{Number}
use Rattle.fm_grammar.specs.Score.{Leaf}
use Rattle.fm_grammar.specs.Grammar.{NumForm}
use Rattle.fm_grammar.specs.Signs.{key, num}
use Rattle.fm_grammar.specs.Rules.{Sym, one, any_number}
use Rattle.fm_grammar.specs.Standing.{num_tree}

-- the word, and the stretch in thousandths
pub record StretchForm : Type 0 where
  pub word : Leaf
  pub by : NumForm

-- its tokens
abbrev pub stretch_text : Keyword → StretchForm → List Lexed → List Lexed
stretch_text w s next = key w s.word ∷ num s.by ∷ next

-- its symbols, before what follows
abbrev pub stretch_syms : Keyword → List Sym → List Sym
stretch_syms w next = one (kinds.Keyword w) ∷ one any_number ∷ next

-- what it stands for
abbrev pub stretch_tree : StretchForm → Number
stretch_tree s = num_tree s.by
