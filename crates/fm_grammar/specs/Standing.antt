-- The score that a form of the grammar stands for.
use Rattle.std.specs.Prelude.{pos, ◌-ℤ◌, List, [], ◌∷◌, ◌++◌, map, Option, Some, None}
use Rattle.fm_lex.specs.declared.spot.Spot.{Spot}
use Rattle.fm_value.specs.declared.node.Node.{Node}
use Rattle.fm_value.specs.declared.node.Node.TheVariants as nodes
use Rattle.fm_value.specs.declared.expr.Spot2.{Spot2}
use Rattle.fm_grammar.specs.declared.number.Number.{Number}
use Rattle.fm_grammar.specs.declared.length.Length.{Length}
use Rattle.fm_grammar.specs.declared.length.Length.TheVariants.{Share, Ticks}
use Rattle.fm_grammar.specs.declared.part_text.PartText.{PartText}
use Rattle.fm_grammar.specs.declared.part_text.PartText.TheVariants.{Flat, Slope, Pause, Breath}
use Rattle.fm_grammar.specs.Score.{Leaf, Postfix, Duration, Amount, Pitch, Stmt, Body, Branches, Entry, Score}
use Rattle.fm_grammar.specs.Score as tree
use Rattle.fm_grammar.specs.Grammar.{NumForm, Mores, no_more, more, Listed, LengthForm, share, ticks, PartForm, flat, slope, pause, breath, Scaling, times, over, modulo, Adding, plus, minus, Comparing, least, greatest, below, equal, ExprForm, expr, FactorForm, register, index, negate, group, pick, compare, TermsForm, no_term, term, SumsForm, no_sum, sum, AmountForm, negative, DurationForm, fixed, PitchForm, named, keyed, Sending, program, bend, Scoping, channel, volume, gate, Cycling, artic, loud, StmtsForm, no_stmt, stmt, BlockForm, block, ElseForm, no_else, otherwise, BranchesForm, no_branch, branch, StmtForm, note, play, rest, skip, control, send, set, choice, repeat, again, call, warp, par, scope, rhythm, cycling, EntryForm, shape, phrase, plays, EntriesForm, no_entry, entry, SeedForm, no_seed, seed, DivisionForm, no_division, division, ScoreForm}
use Rattle.fm_grammar.specs.Grammar as forms

-- a number
abbrev pub num_tree : NumForm → Number
num_tree n = record { value = n.value; spot = n.leaf.spot }

-- { "," item }, where a function says what an item stands for
abbrev pub mores_tree : {A B : Type 0} → (A → B) → Mores A → List B
mores_tree of no_more = []
mores_tree of (more c x xs) = of x ∷ mores_tree of xs

-- item { "," item }
abbrev pub listed_tree : {A B : Type 0} → (A → B) → Listed A → List B
listed_tree of xs = of xs.first ∷ mores_tree of xs.others

-- length
abbrev pub length_tree : LengthForm → Length
length_tree (share a s b) = Share (num_tree a) (num_tree b)
length_tree (ticks w n) = Ticks (num_tree n)

-- part
abbrev pub part_tree : PartForm → PartText
part_tree (flat w l b s) = Flat (length_tree l) (num_tree s)
part_tree (slope w l b s t e) = Slope (length_tree l) (num_tree s) (num_tree e)
part_tree (pause w l) = Pause (length_tree l)
part_tree (breath w l) = Breath (length_tree l)

-- a node of an expression and its spot
pub record PlacedNode : Type 0 where
  pub node : Node
  pub spot : Spot2

-- a node with the spot of its own token
abbrev pub node_at : Node → Leaf → PlacedNode
node_at n l = record { node = n; spot = record { line = l.spot.line; column = l.spot.column } }

-- the node of an operator between factors
abbrev pub scaling_node : Scaling → Node
scaling_node times = nodes.Multiply
scaling_node over = nodes.Divide
scaling_node modulo = nodes.Remain

-- of an operator between terms
abbrev pub adding_node : Adding → Node
adding_node plus = nodes.Add
adding_node minus = nodes.Subtract

-- of a word before two expressions
abbrev pub comparing_node : Comparing → Node
comparing_node least = nodes.Min
comparing_node greatest = nodes.Max
comparing_node below = nodes.Less
comparing_node equal = nodes.Same

-- the nodes of an expression: an operation stands behind its operands; operators of one line group from the left
abbrev mutual
  -- expr
  pub expr_nodes : ExprForm → List PlacedNode
  expr_nodes (expr f ts ss) = factor_nodes f ++ (terms_nodes ts ++ sums_nodes ss)

  -- factor
  pub factor_nodes : FactorForm → List PlacedNode
  factor_nodes (forms.FactorForm.number n) = node_at (nodes.Literal n.value) n.leaf ∷ []
  factor_nodes (register r l) = node_at (nodes.Register r) l ∷ []
  factor_nodes (index i l) = node_at (nodes.Index i) l ∷ []
  factor_nodes (negate m f) = factor_nodes f ++ node_at nodes.Negate m ∷ []
  factor_nodes (group o e c) = expr_nodes e
  factor_nodes (pick w o e c) = expr_nodes e ++ node_at nodes.Pick w ∷ []
  factor_nodes (compare f w o a m b c) = expr_nodes a ++ (expr_nodes b ++ node_at (comparing_node f) w ∷ [])

  -- { ("*" | "/" | "%") factor }
  pub terms_nodes : TermsForm → List PlacedNode
  terms_nodes no_term = []
  terms_nodes (term s l f ts) = factor_nodes f ++ node_at (scaling_node s) l ∷ terms_nodes ts

  -- { ("+" | "-") term }
  pub sums_nodes : SumsForm → List PlacedNode
  sums_nodes no_sum = []
  sums_nodes (sum a l f ts ss) = factor_nodes f ++ (terms_nodes ts ++ node_at (adding_node a) l ∷ sums_nodes ss)

-- an expression
abbrev pub expr_tree : ExprForm → Postfix
expr_tree e = record { nodes = map (λ p. p.node) (expr_nodes e); spots = map (λ p. p.spot) (expr_nodes e) }

-- amount
abbrev pub amount_tree : AmountForm → Amount
amount_tree (forms.AmountForm.number n) = tree.literal (pos n.value) n.leaf.spot
amount_tree (negative m n) = tree.literal (pos 0 -ℤ pos n.value) m.spot
amount_tree (forms.AmountForm.computed o e c) = tree.Amount.computed (expr_tree e)

-- duration
abbrev pub duration_tree : DurationForm → Duration
duration_tree (fixed l) = tree.fixed (length_tree l)
duration_tree (forms.DurationForm.computed w o e c m n) = tree.Duration.computed (expr_tree e) (num_tree n)

-- pitch
abbrev pub pitch_tree : PitchForm → Pitch
pitch_tree (named k l) = tree.named k l.spot
pitch_tree (keyed w a) = tree.keyed (amount_tree a) w.spot

-- a statement that sends a value
abbrev pub sending_tree : Sending → Amount → Stmt
sending_tree program a = tree.program a
sending_tree bend a = tree.bend a

-- a block with one number
abbrev pub scoping_tree : Scoping → Number → Body → Stmt
scoping_tree channel n b = tree.channel n b
scoping_tree volume n b = tree.volume n b
scoping_tree gate n b = tree.gate n b

-- a block with a list of numbers
abbrev pub cycling_tree : Cycling → List Number → Body → Stmt
cycling_tree artic ns b = tree.artic ns b
cycling_tree loud ns b = tree.loud ns b

-- the spot of a statement, which is that of its keyword
abbrev pub stmt_spot : StmtForm → Spot
stmt_spot (note w ps d e) = w.spot
stmt_spot (play w ps e) = w.spot
stmt_spot (rest w d e) = w.spot
stmt_spot (skip w e) = w.spot
stmt_spot (control w n a e) = w.spot
stmt_spot (send s w a e) = w.spot
stmt_spot (set w r l q x e) = w.spot
stmt_spot (choice w x b o) = w.spot
stmt_spot (repeat w n b) = w.spot
stmt_spot (again w o x c m n b) = w.spot
stmt_spot (call w n e) = w.spot
stmt_spot (warp w n b) = w.spot
stmt_spot (par w o f b bs c) = w.spot
stmt_spot (scope s w n b) = w.spot
stmt_spot (rhythm w o ls c b) = w.spot
stmt_spot (cycling y w o ns c b) = w.spot

-- statements and blocks
abbrev mutual
  -- { stmt }
  pub stmts_tree : StmtsForm → Body
  stmts_tree no_stmt = tree.done
  stmts_tree (stmt s ss) = tree.then (stmt_spot s) (stmt_tree s) (stmts_tree ss)

  -- block
  pub block_tree : BlockForm → Body
  block_tree (block o ss c) = stmts_tree ss

  -- [ "else" block ]
  pub else_tree : ElseForm → Body
  else_tree no_else = tree.done
  else_tree (otherwise w b) = block_tree b

  -- { branch }
  pub branches_tree : BranchesForm → Branches
  branches_tree no_branch = tree.none
  branches_tree (branch w b bs) = tree.branch (block_tree b) (branches_tree bs)

  -- stmt
  pub stmt_tree : StmtForm → Stmt
  stmt_tree (note w ps d e) = tree.note (listed_tree pitch_tree ps) (duration_tree d)
  stmt_tree (play w ps e) = tree.play (listed_tree pitch_tree ps)
  stmt_tree (rest w d e) = tree.rest (duration_tree d)
  stmt_tree (skip w e) = tree.skip
  stmt_tree (control w n a e) = tree.control (num_tree n) (amount_tree a)
  stmt_tree (send s w a e) = sending_tree s (amount_tree a)
  stmt_tree (set w r l q x e) = tree.set r (expr_tree x)
  stmt_tree (choice w x b o) = tree.choice (expr_tree x) (block_tree b) (else_tree o)
  stmt_tree (repeat w n b) = tree.repeat (num_tree n) (block_tree b)
  stmt_tree (again w o x c m n b) = tree.again (expr_tree x) (num_tree n) (block_tree b)
  stmt_tree (call w n e) = tree.call n
  stmt_tree (warp w n b) = tree.warp n (block_tree b)
  stmt_tree (par w o f b bs c) = tree.par (tree.branch (block_tree b) (branches_tree bs))
  stmt_tree (scope s w n b) = scoping_tree s (num_tree n) (block_tree b)
  stmt_tree (rhythm w o ls c b) = tree.rhythm (listed_tree length_tree ls) (block_tree b)
  stmt_tree (cycling y w o ns c b) = cycling_tree y (listed_tree num_tree ns) (block_tree b)

-- entry
abbrev pub entry_tree : EntryForm → Entry
entry_tree (shape w n q ps e) = tree.shape n (listed_tree part_tree ps)
entry_tree (phrase w n b) = tree.phrase n (block_tree b)
entry_tree (plays s) = tree.plays (stmt_spot s) (stmt_tree s)

-- { entry }
abbrev pub entries_tree : EntriesForm → List Entry
entries_tree no_entry = []
entries_tree (entry e es) = entry_tree e ∷ entries_tree es

-- [ "seed" NUMBER ";" ]
abbrev pub seed_tree : SeedForm → Option Number
seed_tree no_seed = None
seed_tree (seed w n e) = Some (num_tree n)

-- [ "division" NUMBER ";" ]
abbrev pub division_tree : DivisionForm → Option Number
division_tree no_division = None
division_tree (division w n e) = Some (num_tree n)

-- score
abbrev pub score_tree : ScoreForm → Score
score_tree s = record {
  version = num_tree s.version;
  division = division_tree s.divided;
  seed = seed_tree s.seeded;
  entries = entries_tree s.entries;
}
