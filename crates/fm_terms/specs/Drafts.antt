-- What the functions that read an expression put behind a draft of it.
use Rattle.std.specs.Prelude.{◌≡◌, ◌≢◌, List, [], ◌∷◌, ◌++◌, map, Some}
use Rattle.fm_lex.specs.declared.spot.Spot.{Spot}
use Rattle.fm_lex.specs.declared.kind.Kind.{Kind}
use Rattle.fm_lex.specs.declared.kind.Kind.TheVariants.{Symbol}
use Rattle.fm_lex.specs.declared.kind.Kind.TheVariants as kinds
use Rattle.fm_lex.specs.declared.keyword.Keyword.{Keyword}
use Rattle.fm_lex.specs.Tokens.{Lexed}
use Rattle.fm_value.specs.declared.node.Node.{Node}
use Rattle.fm_grammar.specs.Score.{Leaf, Postfix}
use Rattle.fm_grammar.specs.Grammar.{Scaling, Adding, Comparing, FactorForm, ExprForm}
use Rattle.fm_grammar.specs.Spelling.{scaling_kind, adding_kind, comparing_word, factor_text, expr_text}
use Rattle.fm_grammar.specs.Signs.{tok, comma, open_parenthesis, close_parenthesis}
use Rattle.fm_grammar.specs.Rules.{kind_code, rules_of, factor}
use Rattle.fm_grammar.specs.Table.{taking}
use Rattle.fm_grammar.specs.Standing.{PlacedNode, factor_nodes, expr_nodes, scaling_node, adding_node, comparing_node}
use Rattle.fm_terms.specs.Follow.{IsMark}

-- a node and the spot of its token
abbrev pub spotted : Node → Spot → PlacedNode
spotted n s = record { node = n; spot = record { line = s.line; column = s.column } }

-- an expression with further nodes
abbrev pub extended : Postfix → List PlacedNode → Postfix
extended p ns = record {
  nodes = p.nodes ++ map (λ n. n.node) ns;
  spots = p.spots ++ map (λ n. n.spot) ns;
}

-- a form was read, and its nodes were put behind the draft
pub record Drafted {Form : Type 0} (text : Form → List Lexed → List Lexed)
    (nodes : Form → List PlacedNode) (from to : Postfix) (old new : List Lexed) : Type 0 where
  pub form : Form
  pub spells : old ≡ text form new
  pub grows : to ≡ extended from (nodes form)

-- the kind of an operator between factors, and its node
pub record IsScaling (kind : Kind) (node : Node) : Type 0 where
  pub sign : Scaling
  pub mark : IsMark kind
  pub kind_is : kind ≡ scaling_kind sign
  pub node_is : node ≡ scaling_node sign

-- the kind of an operator between terms, and its node
pub record IsAdding (kind : Kind) (node : Node) : Type 0 where
  pub sign : Adding
  pub mark : IsMark kind
  pub kind_is : kind ≡ adding_kind sign
  pub node_is : node ≡ adding_node sign

-- a word before two expressions, and its node
pub record IsComparing (word : Keyword) (node : Node) : Type 0 where
  pub sort : Comparing
  pub word_is : word ≡ comparing_word sort
  pub node_is : node ≡ comparing_node sort

-- a number, a register or an index, and its node
pub record IsLeaf (kind : Kind) (node : Node) : Type 0 where
  pub form : Leaf → FactorForm
  pub text : (l : Leaf) (next : List Lexed) → factor_text (form l) next ≡ tok kind l ∷ next
  pub nodes : (l : Leaf) → factor_nodes (form l) ≡ spotted node l.spot ∷ []
  pub taken : taking (kind_code kind) (rules_of factor) ≡ Some []

-- neither a word nor one of the signs that begin a factor
abbrev pub IsPlain : Kind → Type 0
IsPlain (Symbol b) = (b ≢ 45) × (b ≢ 40)
IsPlain (kinds.Keyword w) = ⊥
IsPlain k = Unit {0}

-- two expressions in parentheses, with a comma between
pub record PairForm : Type 0 where
  pub opens : Leaf
  pub left : ExprForm
  pub comma_at : Leaf
  pub right : ExprForm
  pub closes : Leaf

-- their tokens
abbrev pub pair_text : PairForm → List Lexed → List Lexed
pair_text p next =
    tok open_parenthesis p.opens
    ∷ expr_text p.left (tok comma p.comma_at ∷ expr_text p.right (tok close_parenthesis p.closes ∷ next))

-- their nodes
abbrev pub pair_nodes : PairForm → List PlacedNode
pair_nodes p = expr_nodes p.left ++ expr_nodes p.right
