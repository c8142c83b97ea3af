-- What the functions of the parser answer, by the stack of the symbols that must still come.
use Rattle.std.specs.Prelude.{◌≡◌, ℕ, ◌+◌, ◌<◌, ◌≤◌, max, List, [], ◌∷◌, ◌++◌, Option, Some, Result, Ok, Err}
use Rattle.fm_lex.specs.declared.spot.Spot.{Spot}
use Rattle.fm_lex.specs.declared.kind.Kind.{Kind}
use Rattle.fm_lex.specs.declared.kind.Kind.TheVariants.{Name, Symbol}
use Rattle.fm_lex.specs.declared.kind.Kind.TheVariants as kinds
use Rattle.fm_lex.specs.Tokens.{Lexeme, Lexed}
use Rattle.fm_grammar.specs.Score.{Leaf}
use Rattle.fm_grammar.specs.Signs.{tok}
use Rattle.fm_grammar.specs.Reads.{Fault, lexical, expected, too_nested}
use Rattle.fm_grammar.specs.Within.{limits}
use Rattle.fm_grammar.specs.Rules.{Sym, inner}
use Rattle.fm_grammar.specs.Table.{opened, peak, want, trip}
use Rattle.fm_terms.specs.Reader.{tail}
use Rattle.fm_terms.specs.declared.fault.ParseFault.{ParseFault}
use Rattle.fm_terms.specs.declared.fault.ParseFault.TheVariants.{Lex, Expected, TooNested, Memory}

-- these symbols must still come, with so many tokens of the open expression read: within the limits, and from there on
-- the tokens trip as the whole text does
pub record At (whole : Option Fault) (used : ℕ) (syms : List Sym) (ts : List Lexed) : Type 0 where
  pub trips : trip limits used syms ts ≡ whole
  pub braces : peak syms ≤ limits.braces
  pub tokens : want used syms ≤ limits.tokens

-- the fault of an answer is the whole text's, unless memory ran out
abbrev pub Says : ParseFault → Option Fault → Type 0
Says (Lex f) whole = whole ≡ Some (lexical f)
Says (Expected spot) whole = whole ≡ Some (expected spot)
Says (TooNested spot) whole = whole ≡ Some (too_nested spot)
Says Memory whole = Unit {0}

-- the symbols below come next, or the fault is the whole text's
abbrev pub Leads : {A : Type 0}
    → Option Fault → ℕ → List Sym → Result A ParseFault → List Lexed → Type 0
Leads whole used below (Ok x) new = At whole used below new
Leads whole used below (Err e) new = Says e whole

-- outside of expressions, these symbols were read, whatever stands below
abbrev pub FollowsStack : {A : Type 0}
    → List Sym → Result A ParseFault → List Lexed → List Lexed → Type 0
FollowsStack syms result old new =
    (whole : Option Fault) (used : ℕ) (below : List Sym)
    → At whole used (syms ++ below) old → Leads whole 0 below result new

-- the same where so many braces are open
abbrev pub FollowsIn : {A : Type 0}
    → ℕ → List Sym → Result A ParseFault → List Lexed → List Lexed → Type 0
FollowsIn depth syms result old new =
    (whole : Option Fault) (used : ℕ) (below : List Sym) → opened below ≡ depth
    → At whole used (syms ++ below) old → Leads whole 0 below result new

-- of the open expression, so many tokens must still come below
pub record Owes (below : List Sym) (owed : ℕ) : Type 0 where
  pub later : ℕ
  pub small : later ≤ limits.tokens
  pub wants : (v : ℕ) → want v below ≡ max (v + owed) later

-- the symbols below come next, with so many tokens read as the answer says
abbrev pub Counts : Option Fault → List Sym → Result ℕ ParseFault → List Lexed → Type 0
Counts whole below (Ok n) new = At whole n below new
Counts whole below (Err e) new = Says e whole

-- inside an expression, these symbols were read
abbrev pub FollowsInside : List Sym → ℕ → ℕ → Result ℕ ParseFault → List Lexed → List Lexed → Type 0
FollowsInside syms used owed result old new =
    (whole : Option Fault) (below : List Sym) → Owes below owed
    → At whole used (syms ++ below) old → Counts whole below result new

-- the tokens begin with a fault of the lexer
abbrev pub IsLexical : ParseFault → List Lexed → Type 0
IsLexical (Lex f) ts = ts ≡ Err f ∷ []
IsLexical (Expected spot) ts = ⊥
IsLexical (TooNested spot) ts = ⊥
IsLexical Memory ts = ⊥

-- a kind that stands for one token
abbrev pub IsMark : Kind → Type 0
IsMark Name = Unit {0}
IsMark (Symbol b) = Unit {0}
IsMark (kinds.Keyword w) = Unit {0}
IsMark k = ⊥

-- a token of a kind opens so many tokens of an expression: past the limit the whole text trips there, and else these
-- symbols come behind it
abbrev pub Opens : Option Fault → ℕ → Kind → List Sym → ℕ → List Lexed → Type 0
Opens whole used kind below needed ts =
    (t : Lexeme) → ts ≡ Ok t ∷ tail ts → t.kind ≡ kind
    → (64 < needed → whole ≡ Some (too_nested t.spot)) × (needed ≤ 64 → At whole used (inner kind ∷ below) ts)

-- a token comes first
pub record IsThere (ts : List Lexed) : Type 0 where
  pub token : Lexeme
  pub is : ts ≡ Ok token ∷ tail ts

-- more is needed than the limit allows, and the fault stands at the first token
pub record IsDeep (needed most : ℕ) (e : ParseFault) (ts : List Lexed) : Type 0 where
  pub token : Lexeme
  pub is : ts ≡ Ok token ∷ tail ts
  pub passes : most < needed
  pub fault : e ≡ TooNested token.spot

-- the bytes of a token, and its spot
abbrev pub leaf_at : List ℕ → Spot → Leaf
leaf_at bytes spot = record { text = bytes; spot = spot }

-- the token of a kind was read at a spot
pub record Marked (kind : Kind) (spot : Spot) (old new : List Lexed) : Type 0 where
  pub bytes : List ℕ
  pub text : old ≡ tok kind (leaf_at bytes spot) ∷ new

-- a form of the grammar was read, and the tree is what it stands for
pub record Spelt {Form : Type 0} {Tree : Type 0} (text : Form → List Lexed → List Lexed)
    (tree : Form → Tree) (x : Tree) (old new : List Lexed) : Type 0 where
  pub form : Form
  pub spells : old ≡ text form new
  pub stands_for : x ≡ tree form
