-- A score as plain data: the tree that a text stands for, with the spots that faults name.
use Rattle.std.specs.Prelude.{ℕ, ℤ, List, Option}
use Rattle.fm_lex.specs.declared.spot.Spot.{Spot}
use Rattle.fm_value.specs.declared.node.Node.{Node}
use Rattle.fm_value.specs.declared.expr.Spot2.{Spot2}
use Rattle.fm_grammar.specs.declared.number.Number.{Number}
use Rattle.fm_grammar.specs.declared.length.Length.{Length}
use Rattle.fm_grammar.specs.declared.part_text.PartText.{PartText}

-- the bytes and the spot of a token, as of a name
pub record Leaf : Type 0 where
  pub text : List ℕ
  pub spot : Spot

-- an expression: its nodes with the operands first, and the spot of each
pub record Postfix : Type 0 where
  pub nodes : List Node
  pub spots : List Spot2

-- a duration: a length, or as many ticks as an expression gives
pub data Duration : Type 0 where
  fixed : Length → Duration
  computed : Postfix → (most : Number) → Duration

-- a value: a literal with the spot of its first token, or an expression
pub data Amount : Type 0 where
  literal : ℤ → Spot → Amount
  computed : Postfix → Amount

-- a pitch: a key by its name, or by its number with the spot of the word
pub data Pitch : Type 0 where
  named : (key : ℕ) → Spot → Pitch
  keyed : Amount → Spot → Pitch

mutual
  -- a statement; a missing else is an empty body
  pub data Stmt : Type 0 where
    note : List Pitch → Duration → Stmt
    play : List Pitch → Stmt
    rest : Duration → Stmt
    skip : Stmt
    control : (controller : Number) → Amount → Stmt
    program : Amount → Stmt
    bend : Amount → Stmt
    set : (register : ℕ) → Postfix → Stmt
    choice : Postfix → (then_body else_body : Body) → Stmt
    repeat : (count : Number) → Body → Stmt
    again : (count : Postfix) → (most : Number) → Body → Stmt
    call : (name : Leaf) → Stmt
    par : Branches → Stmt
    warp : (name : Leaf) → Body → Stmt
    channel : Number → Body → Stmt
    volume : Number → Body → Stmt
    gate : Number → Body → Stmt
    rhythm : List Length → Body → Stmt
    artic : List Number → Body → Stmt
    loud : List Number → Body → Stmt

  -- statements in their order, each with the spot of its keyword
  pub data Body : Type 0 where
    done : Body
    then : Spot → Stmt → Body → Body

  -- the branches of a fork in their order
  pub data Branches : Type 0 where
    none : Branches
    branch : Body → Branches → Branches

-- an entry of a score
pub data Entry : Type 0 where
  shape : (name : Leaf) → List PartText → Entry
  phrase : (name : Leaf) → Body → Entry
  plays : Spot → Stmt → Entry

-- a score; its division is the ticks of a quarter note
pub record Score : Type 0 where
  pub version : Number
  pub division : Option Number
  pub seed : Option Number
  pub entries : List Entry
