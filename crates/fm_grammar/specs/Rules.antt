-- The grammar as a table: for each symbol, by the kind of one token, what must come then.
use Rattle.std.specs.Prelude.{ℕ, ◌+◌, ◌*◌, Bool, true, false, List, [], ◌∷◌}
use Rattle.fm_lex.specs.declared.kind.Kind.{Kind}
use Rattle.fm_lex.specs.declared.kind.Kind.TheVariants.{Name, Number, Pitch, Register, Index, Symbol, End}
use Rattle.fm_lex.specs.declared.kind.Kind.TheVariants as kinds
use Rattle.fm_lex.specs.declared.keyword.Keyword.{Keyword}
use Rattle.fm_lex.specs.declared.keyword.Keyword.TheVariants.{Formula, Seed, Shape, Flat, By, Slope, To, Pause, Breath, Ticks, Phrase, Note, Play, Rest, Skip, Control, Program, Bend, Set, If, Else, Repeat, Max, Do, Par, Branch, Warp, Channel, Volume, Gate, Rhythm, Artic, Loud, Key, Pick, Min, Less, Same}
use Rattle.fm_grammar.specs.Signs.{semicolon, open_brace, close_brace, open_parenthesis, close_parenthesis, open_bracket, close_bracket, comma, equals, slash, plus_sign, minus_sign, asterisk, percent}

-- a number for each keyword
abbrev pub keyword_code : Keyword → ℕ
keyword_code Formula = 0
keyword_code Seed = 1
keyword_code Shape = 2
keyword_code Flat = 3
keyword_code By = 4
keyword_code Slope = 5
keyword_code To = 6
keyword_code Pause = 7
keyword_code Breath = 8
keyword_code Ticks = 9
keyword_code Phrase = 10
keyword_code Note = 11
keyword_code Play = 12
keyword_code Rest = 13
keyword_code Skip = 14
keyword_code Control = 15
keyword_code Program = 16
keyword_code Bend = 17
keyword_code Set = 18
keyword_code If = 19
keyword_code Else = 20
keyword_code Repeat = 21
keyword_code Max = 22
keyword_code Do = 23
keyword_code Par = 24
keyword_code Branch = 25
keyword_code Warp = 26
keyword_code Channel = 27
keyword_code Volume = 28
keyword_code Gate = 29
keyword_code Rhythm = 30
keyword_code Artic = 31
keyword_code Loud = 32
keyword_code Key = 33
keyword_code Pick = 34
keyword_code Min = 35
keyword_code Less = 36
keyword_code Same = 37

-- a number for each kind of token that the grammar tells apart
abbrev pub kind_code : Kind → ℕ
kind_code Name = 1
kind_code (Number n) = 2
kind_code (Pitch k) = 3
kind_code (Register r) = 4
kind_code (Index i) = 5
kind_code End = 6
kind_code (kinds.Keyword w) = 10 + 2 * keyword_code w
kind_code (Symbol b) = 11 + 2 * b

-- any number
abbrev pub any_number : Kind
any_number = Number 0

-- any register
abbrev pub any_register : Kind
any_register = Register 0

-- any index
abbrev pub any_index : Kind
any_index = Index 0

-- any pitch
abbrev pub any_pitch : Kind
any_pitch = Pitch 0

-- the items of a list with commas
pub data Item : Type 0 where
  pitches : Item
  lengths : Item
  numbers : Item
  parts : Item

-- what must come: a token of a kind, outside of expressions or inside one, or what a rule of the grammar has
pub data Sym : Type 0 where
  one : Kind → Sym
  inner : Kind → Sym
  factor : Sym
  terms : Sym
  sums : Sym
  length : Sym
  part : Sym
  amount : Sym
  duration : Sym
  pitch : Sym
  counted : Sym
  mores : Item → Sym
  stmts : Sym
  otherwise : Sym
  branches : Sym
  entries : Sym
  seeded : Sym

-- the symbol of an item
abbrev pub item : Item → Sym
item pitches = pitch
item lengths = length
item numbers = one any_number
item parts = part

-- a way in which a symbol goes on: the token that it takes, and what must come then
pub record Rule : Type 0 where
  pub first : Kind
  pub next : List Sym

-- a rule
abbrev pub rule_at : Kind → List Sym → Rule
rule_at k next = record { first = k; next = next }

-- an expression, before what follows
abbrev pub expr : List Sym → List Sym
expr next = factor ∷ terms ∷ sums ∷ next

-- a block, before what follows
abbrev pub block : List Sym → List Sym
block next = one open_brace ∷ stmts ∷ one close_brace ∷ next

-- a list with commas, before what follows
abbrev pub with_commas : Item → List Sym → List Sym
with_commas i next = item i ∷ mores i ∷ next

-- an expression in parentheses that are no part of it, its greatest value, and what follows
abbrev pub with_most : List Sym → List Sym
with_most next = expr (one close_parenthesis ∷ one (kinds.Keyword Max) ∷ one any_number ∷ next)

-- two expressions in parentheses
abbrev pub two_exprs : List Sym
two_exprs = inner open_parenthesis ∷ expr (inner comma ∷ expr (inner close_parenthesis ∷ []))

-- the rules of a statement, before what follows, and further rules
abbrev pub stmt_rules : Sym → List Rule → List Rule
stmt_rules next further =
    rule_at (kinds.Keyword Note) (with_commas pitches (duration ∷ one semicolon ∷ next ∷ []))
    ∷ rule_at (kinds.Keyword Play) (with_commas pitches (one semicolon ∷ next ∷ []))
    ∷ rule_at (kinds.Keyword Rest) (duration ∷ one semicolon ∷ next ∷ [])
    ∷ rule_at (kinds.Keyword Skip) (one semicolon ∷ next ∷ [])
    ∷ rule_at (kinds.Keyword Control) (one any_number ∷ amount ∷ one semicolon ∷ next ∷ [])
    ∷ rule_at (kinds.Keyword Program) (amount ∷ one semicolon ∷ next ∷ [])
    ∷ rule_at (kinds.Keyword Bend) (amount ∷ one semicolon ∷ next ∷ [])
    ∷ rule_at (kinds.Keyword Set) (one any_register ∷ one equals ∷ expr (one semicolon ∷ next ∷ []))
    ∷ rule_at (kinds.Keyword If) (expr (block (otherwise ∷ next ∷ [])))
    ∷ rule_at (kinds.Keyword Repeat) (counted ∷ block (next ∷ []))
    ∷ rule_at (kinds.Keyword Do) (one Name ∷ one semicolon ∷ next ∷ [])
    ∷ rule_at (kinds.Keyword Warp) (one Name ∷ block (next ∷ []))
    ∷ rule_at (kinds.Keyword Par)
    (one open_brace ∷ one (kinds.Keyword Branch) ∷ block (branches ∷ one close_brace ∷ next ∷ []))
    ∷ rule_at (kinds.Keyword Channel) (one any_number ∷ block (next ∷ []))
    ∷ rule_at (kinds.Keyword Volume) (one any_number ∷ block (next ∷ []))
    ∷ rule_at (kinds.Keyword Gate) (one any_number ∷ block (next ∷ []))
    ∷ rule_at (kinds.Keyword Rhythm) (one open_bracket ∷ with_commas lengths (one close_bracket ∷ block (next ∷ [])))
    ∷ rule_at (kinds.Keyword Artic) (one open_bracket ∷ with_commas numbers (one close_bracket ∷ block (next ∷ [])))
    ∷ rule_at (kinds.Keyword Loud) (one open_bracket ∷ with_commas numbers (one close_bracket ∷ block (next ∷ [])))
    ∷ further

-- the rules of each symbol
abbrev pub rules_of : Sym → List Rule
rules_of (one k) = rule_at k [] ∷ []
rules_of (inner k) = rule_at k [] ∷ []
rules_of factor =
    rule_at any_number [] ∷ rule_at any_register [] ∷ rule_at any_index [] ∷ rule_at minus_sign (factor ∷ [])
    ∷ rule_at open_parenthesis (expr (inner close_parenthesis ∷ []))
    ∷ rule_at (kinds.Keyword Pick) (inner open_parenthesis ∷ expr (inner close_parenthesis ∷ []))
    ∷ rule_at (kinds.Keyword Min) two_exprs ∷ rule_at (kinds.Keyword Max) two_exprs
    ∷ rule_at (kinds.Keyword Less) two_exprs ∷ rule_at (kinds.Keyword Same) two_exprs ∷ []
rules_of terms =
    rule_at asterisk (factor ∷ terms ∷ []) ∷ rule_at slash (factor ∷ terms ∷ []) ∷ rule_at percent
    (factor ∷ terms ∷ []) ∷ []
rules_of sums = rule_at plus_sign (expr []) ∷ rule_at minus_sign (expr []) ∷ []
rules_of length =
    rule_at any_number (one slash ∷ one any_number ∷ []) ∷ rule_at (kinds.Keyword Ticks) (one any_number ∷ []) ∷ []
rules_of part =
    rule_at (kinds.Keyword Flat) (length ∷ one (kinds.Keyword By) ∷ one any_number ∷ [])
    ∷ rule_at (kinds.Keyword Slope)
    (length ∷ one (kinds.Keyword By) ∷ one any_number ∷ one (kinds.Keyword To) ∷ one any_number ∷ [])
    ∷ rule_at (kinds.Keyword Pause) (length ∷ []) ∷ rule_at (kinds.Keyword Breath) (length ∷ []) ∷ []
rules_of amount =
    rule_at any_number [] ∷ rule_at minus_sign (one any_number ∷ [])
    ∷ rule_at open_parenthesis (expr (one close_parenthesis ∷ [])) ∷ []
rules_of duration =
    rule_at any_number (one slash ∷ one any_number ∷ []) ∷ rule_at (kinds.Keyword Ticks) (counted ∷ []) ∷ []
rules_of pitch = rule_at any_pitch [] ∷ rule_at (kinds.Keyword Key) (amount ∷ []) ∷ []
rules_of counted = rule_at any_number [] ∷ rule_at open_parenthesis (with_most []) ∷ []
rules_of (mores i) = rule_at comma (with_commas i []) ∷ []
rules_of stmts = stmt_rules stmts []
rules_of otherwise = rule_at (kinds.Keyword Else) (block []) ∷ []
rules_of branches = rule_at (kinds.Keyword Branch) (block (branches ∷ [])) ∷ []
rules_of entries =
    stmt_rules entries
    (rule_at (kinds.Keyword Shape) (one Name ∷ one equals ∷ with_commas parts (one semicolon ∷ entries ∷ []))
    ∷ rule_at (kinds.Keyword Phrase) (one Name ∷ block (entries ∷ [])) ∷ [])
rules_of seeded = rule_at (kinds.Keyword Seed) (one any_number ∷ one semicolon ∷ []) ∷ []

-- whether a symbol may be left out
abbrev pub may_end : Sym → Bool
may_end terms = true
may_end sums = true
may_end (mores i) = true
may_end stmts = true
may_end otherwise = true
may_end branches = true
may_end entries = true
may_end seeded = true
may_end s = false

-- whether the tokens of a symbol belong to an expression
abbrev pub inside : Sym → Bool
inside (inner k) = true
inside factor = true
inside terms = true
inside sums = true
inside s = false

-- the symbols behind the division of a text
abbrev pub undivided : List Sym
undivided = seeded ∷ entries ∷ one End ∷ []

-- the symbols behind the version, with a division or without one
abbrev pub behind_version : Bool → List Sym
behind_version true = one Name ∷ one any_number ∷ one semicolon ∷ undivided
behind_version false = undivided

-- the symbols of a whole text, with a division or without one
abbrev pub whole : Bool → List Sym
whole divided =
    one (kinds.Keyword Formula) ∷ one any_number ∷ one semicolon ∷ behind_version divided
