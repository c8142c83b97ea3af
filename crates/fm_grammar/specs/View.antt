-- The plain data that a tree of the code stands for.
use Rattle.std.specs.Prelude.{List, [], ◌∷◌, map}
use Rattle.fm_lex.specs.declared.spot.Spot.{Spot}
use Rattle.fm_value.specs.declared.expr.Expr.{Expr}
use Rattle.fm_grammar.specs.declared.name.Name.{Name}
use Rattle.fm_grammar.specs.declared.duration.Duration as code_duration
use Rattle.fm_grammar.specs.declared.duration.Duration.TheVariants as durations
use Rattle.fm_grammar.specs.declared.amount.Amount as code_amount
use Rattle.fm_grammar.specs.declared.amount.Amount.TheVariants as amounts
use Rattle.fm_grammar.specs.declared.pitch.Pitch as code_pitch
use Rattle.fm_grammar.specs.declared.pitch.Pitch.TheVariants as pitches
use Rattle.fm_grammar.specs.declared.opening.Opening as code_opening
use Rattle.fm_grammar.specs.declared.opening.Opening.TheVariants as openings
use Rattle.fm_grammar.specs.declared.head.Head.{Head}
use Rattle.fm_grammar.specs.declared.item.Item as code_item
use Rattle.fm_grammar.specs.declared.item.What.TheOpen.{What-F, Item-F}
use Rattle.fm_grammar.specs.declared.item.What.TheFolds.{fold-Item}
use Rattle.fm_grammar.specs.declared.entry.Entry as code_entry
use Rattle.fm_grammar.specs.declared.entry.Entry.TheVariants as entries
use Rattle.fm_grammar.specs.declared.score.Score as code_score
use Rattle.fm_grammar.specs.Score.{Leaf, Postfix, Duration, Amount, Pitch, Stmt, Body, Branches, Entry, Score}
use Rattle.fm_grammar.specs.Score as tree
use Rattle.fm_grammar.specs.Opening.{Opening, filled}
use Rattle.fm_grammar.specs.Opening as opening

-- a name
abbrev pub name_view : Name → Leaf
name_view n = record { text = n.text.now; spot = n.spot }

-- an expression
abbrev pub expr_view : Expr → Postfix
expr_view e = record { nodes = e.nodes.items; spots = e.spots.items }

-- a duration
abbrev pub duration_view : code_duration.Duration → Duration
duration_view (durations.Fixed l) = tree.fixed l
duration_view (durations.Computed e most) = tree.Duration.computed (expr_view e) most

-- an amount
abbrev pub amount_view : code_amount.Amount → Amount
amount_view (amounts.Literal v s) = tree.literal v s
amount_view (amounts.Computed e) = tree.Amount.computed (expr_view e)

-- a pitch
abbrev pub pitch_view : code_pitch.Pitch → Pitch
pitch_view (pitches.Named k s) = tree.named k s
pitch_view (pitches.Key a s) = tree.keyed (amount_view a) s

-- what stands before a block
abbrev pub opening_view : code_opening.Opening → Opening
opening_view (openings.Repeat n) = opening.repeat n
opening_view (openings.Again e n) = opening.again (expr_view e) n
opening_view (openings.Warp n) = opening.warp (name_view n)
opening_view (openings.Channel n) = opening.channel n
opening_view (openings.Volume n) = opening.volume n
opening_view (openings.Gate n) = opening.gate n
opening_view (openings.Rhythm ls) = opening.rhythm ls.items
opening_view (openings.Artic ns) = opening.artic ns.items
opening_view (openings.Loud ns) = opening.loud ns.items

-- a statement with its spot
pub record PlacedStmt : Type 0 where
  pub spot : Spot
  pub what : Stmt

-- a statement at its spot
abbrev pub placed : Spot → Stmt → PlacedStmt
placed s w = record { spot = s; what = w }

-- statements in their order
abbrev pub body_of : List PlacedStmt → Body
body_of [] = tree.done
body_of (i ∷ is) = tree.then i.spot i.what (body_of is)

-- branches in their order
abbrev pub branches_of : List Body → Branches
branches_of [] = tree.none
branches_of (b ∷ bs) = tree.branch b (branches_of bs)

-- one level of a statement, where what stands inside is seen already
abbrev pub what_level : What-F Stmt PlacedStmt → Stmt
what_level (What-F.Note ps d) = tree.note (map pitch_view ps.items) (duration_view d)
what_level (What-F.Play ps) = tree.play (map pitch_view ps.items)
what_level (What-F.Rest d) = tree.rest (duration_view d)
what_level What-F.Skip = tree.skip
what_level (What-F.Control c a) = tree.control c (amount_view a)
what_level (What-F.Program a) = tree.program (amount_view a)
what_level (What-F.Bend a) = tree.bend (amount_view a)
what_level (What-F.Set r e) = tree.set r (expr_view e)
what_level (What-F.If e ys ns) = tree.choice (expr_view e) (body_of ys.items) (body_of ns.items)
what_level (What-F.Block o b) = filled (opening_view o) (body_of b.items)
what_level (What-F.Do n) = tree.call (name_view n)
what_level (What-F.Par bs) = tree.par (branches_of (map (λ b. body_of b.items) bs.items))

-- one level of an item
abbrev pub item_level : Item-F Stmt PlacedStmt → PlacedStmt
item_level i = record { spot = i.spot; what = i.what }

-- an item
abbrev pub item_view : code_item.Item → PlacedStmt
item_view = fold-Item Stmt PlacedStmt what_level item_level

-- a list of items
abbrev pub items_view : List code_item.Item → Body
items_view is = body_of (map item_view is)

-- an entry
abbrev pub entry_view : code_entry.Entry → Entry
entry_view (entries.Shape n ps) = tree.shape (name_view n) ps.items
entry_view (entries.Phrase n b) = tree.phrase (name_view n) (items_view b.items)
entry_view (entries.Play i) = tree.plays (item_view i).spot (item_view i).what

-- the score with a head and entries
abbrev pub score_of : Head → List Entry → Score
score_of h es = record { version = h.version; division = h.division; seed = h.seed; entries = es }

-- a score
abbrev pub score_view : code_score.Score → Score
score_view s = score_of s.head (map entry_view s.entries.items)
