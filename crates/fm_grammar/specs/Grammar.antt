-- The grammar of a score text. Each rule is a type of forms, with a leaf for each token of a form.
use Rattle.std.specs.Prelude.{ℕ}
use Rattle.fm_grammar.specs.Score.{Leaf}

-- NUMBER
pub record NumForm : Type 0 where
  pub value : ℕ
  pub leaf : Leaf

-- { "," item }
pub data Mores (A : Type 0) : Type 0 where
  no_more : Mores A
  more : (comma : Leaf) → A → Mores A → Mores A

-- item { "," item }
pub record Listed (A : Type 0) : Type 0 where
  pub first : A
  pub others : Mores A

-- length = NUMBER "/" NUMBER | "ticks" NUMBER
pub data LengthForm : Type 0 where
  share : (over : NumForm) → (slash : Leaf) → (under : NumForm) → LengthForm
  ticks : (word : Leaf) → (count : NumForm) → LengthForm

-- part = "flat" length "by" NUMBER | "slope" length "by" NUMBER "to" NUMBER | "pause" length | "breath" length
pub data PartForm : Type 0 where
  flat : (word : Leaf) → LengthForm → (by : Leaf) → NumForm → PartForm
  slope : (word : Leaf) → LengthForm → (by : Leaf) → NumForm → (to : Leaf) → NumForm → PartForm
  pause : (word : Leaf) → LengthForm → PartForm
  breath : (word : Leaf) → LengthForm → PartForm

-- "*" | "/" | "%"
pub data Scaling : Type 0 where
  times : Scaling
  over : Scaling
  modulo : Scaling

-- "+" | "-"
pub data Adding : Type 0 where
  plus : Adding
  minus : Adding

-- "min" | "max" | "less" | "same"
pub data Comparing : Type 0 where
  least : Comparing
  greatest : Comparing
  below : Comparing
  equal : Comparing

mutual
  -- expr = term { ("+" | "-") term }, with term = factor { ("*" | "/" | "%") factor }
  pub data ExprForm : Type 0 where
    expr : FactorForm → TermsForm → SumsForm → ExprForm

  -- factor = NUMBER | REGISTER | INDEX | "-" factor | "(" expr ")" | "pick" "(" expr ")"
  --   | ("min" | "max" | "less" | "same") "(" expr "," expr ")"
  pub data FactorForm : Type 0 where
    number : NumForm → FactorForm
    register : ℕ → Leaf → FactorForm
    index : ℕ → Leaf → FactorForm
    negate : (minus : Leaf) → FactorForm → FactorForm
    group : (opens : Leaf) → ExprForm → (closes : Leaf) → FactorForm
    pick : (word opens : Leaf) → ExprForm → (closes : Leaf) → FactorForm
    compare : Comparing → (word opens : Leaf) → ExprForm → (comma : Leaf) → ExprForm → (closes : Leaf) → FactorForm

  -- { ("*" | "/" | "%") factor }
  pub data TermsForm : Type 0 where
    no_term : TermsForm
    term : Scaling → Leaf → FactorForm → TermsForm → TermsForm

  -- { ("+" | "-") term }
  pub data SumsForm : Type 0 where
    no_sum : SumsForm
    sum : Adding → Leaf → FactorForm → TermsForm → SumsForm → SumsForm

-- amount = NUMBER | "-" NUMBER | "(" expr ")"
pub data AmountForm : Type 0 where
  number : NumForm → AmountForm
  negative : (minus : Leaf) → NumForm → AmountForm
  computed : (opens : Leaf) → ExprForm → (closes : Leaf) → AmountForm

-- duration = length | "ticks" "(" expr ")" "max" NUMBER
pub data DurationForm : Type 0 where
  fixed : LengthForm → DurationForm
  computed : (word opens : Leaf) → ExprForm → (closes max : Leaf) → NumForm → DurationForm

-- pitch = PITCH | "key" amount
pub data PitchForm : Type 0 where
  named : (key : ℕ) → Leaf → PitchForm
  keyed : (word : Leaf) → AmountForm → PitchForm

-- "program" | "bend"
pub data Sending : Type 0 where
  program : Sending
  bend : Sending

-- "channel" | "volume" | "gate"
pub data Scoping : Type 0 where
  channel : Scoping
  volume : Scoping
  gate : Scoping

-- "artic" | "loud"
pub data Cycling : Type 0 where
  artic : Cycling
  loud : Cycling

mutual
  -- { stmt }
  pub data StmtsForm : Type 0 where
    no_stmt : StmtsForm
    stmt : StmtForm → StmtsForm → StmtsForm

  -- block = "{" { stmt } "}"
  pub data BlockForm : Type 0 where
    block : (opens : Leaf) → StmtsForm → (closes : Leaf) → BlockForm

  -- [ "else" block ]
  pub data ElseForm : Type 0 where
    no_else : ElseForm
    otherwise : (word : Leaf) → BlockForm → ElseForm

  -- { branch }, with branch = "branch" block
  pub data BranchesForm : Type 0 where
    no_branch : BranchesForm
    branch : (word : Leaf) → BlockForm → BranchesForm → BranchesForm

  -- stmt, a form a line of the grammar
  pub data StmtForm : Type 0 where
    note : (word : Leaf) → Listed PitchForm → DurationForm → (ends : Leaf) → StmtForm
    play : (word : Leaf) → Listed PitchForm → (ends : Leaf) → StmtForm
    rest : (word : Leaf) → DurationForm → (ends : Leaf) → StmtForm
    skip : (word ends : Leaf) → StmtForm
    control : (word : Leaf) → NumForm → AmountForm → (ends : Leaf) → StmtForm
    send : Sending → (word : Leaf) → AmountForm → (ends : Leaf) → StmtForm
    set : (word : Leaf) → ℕ → (register equals : Leaf) → ExprForm → (ends : Leaf) → StmtForm
    choice : (word : Leaf) → ExprForm → BlockForm → ElseForm → StmtForm
    repeat : (word : Leaf) → NumForm → BlockForm → StmtForm
    again : (word opens : Leaf) → ExprForm → (closes max : Leaf) → NumForm → BlockForm → StmtForm
    call : (word name ends : Leaf) → StmtForm
    warp : (word name : Leaf) → BlockForm → StmtForm
    par : (word opens first : Leaf) → BlockForm → BranchesForm → (closes : Leaf) → StmtForm
    scope : Scoping → (word : Leaf) → NumForm → BlockForm → StmtForm
    rhythm : (word opens : Leaf) → Listed LengthForm → (closes : Leaf) → BlockForm → StmtForm
    cycling : Cycling → (word opens : Leaf) → Listed NumForm → (closes : Leaf) → BlockForm → StmtForm

-- entry = "shape" NAME "=" part { "," part } ";" | "phrase" NAME block | stmt
pub data EntryForm : Type 0 where
  shape : (word name equals : Leaf) → Listed PartForm → (ends : Leaf) → EntryForm
  phrase : (word name : Leaf) → BlockForm → EntryForm
  plays : StmtForm → EntryForm

-- { entry }
pub data EntriesForm : Type 0 where
  no_entry : EntriesForm
  entry : EntryForm → EntriesForm → EntriesForm

-- [ "seed" NUMBER ";" ]
pub data SeedForm : Type 0 where
  no_seed : SeedForm
  seed : (word : Leaf) → NumForm → (ends : Leaf) → SeedForm

-- [ "division" NUMBER ";" ], where `division` is a name
pub data DivisionForm : Type 0 where
  no_division : DivisionForm
  division : (word : Leaf) → NumForm → (ends : Leaf) → DivisionForm

-- score = "formula" NUMBER ";" [ "division" NUMBER ";" ] [ "seed" NUMBER ";" ] { entry } END
pub record ScoreForm : Type 0 where
  pub word : Leaf
  pub version : NumForm
  pub ends : Leaf
  pub divided : DivisionForm
  pub seeded : SeedForm
  pub entries : EntriesForm
  pub last : Leaf
