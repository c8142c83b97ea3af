-- What each kind of statement of the code stands for, at its spot.
use Rattle.std.proofs.Common.{◌≡◌, ℕ, List, [], ◌∷◌, map, rules, refl, ap}
use Rattle.std.specs.Prelude.{Vec}
use Rattle.std.specs.declared.alloc.Global.{Global}
use Rattle.fm_lex.specs.declared.spot.Spot.{Spot}
use Rattle.fm_value.specs.declared.expr.Expr.{Expr}
use Rattle.fm_grammar.specs.declared.number.Number.{Number}
use Rattle.fm_grammar.specs.declared.name.Name.{Name}
use Rattle.fm_grammar.specs.declared.opening.Opening.{Opening}
use Rattle.fm_grammar.specs.declared.pitch.Pitch as code_pitch
use Rattle.fm_grammar.specs.declared.amount.Amount as code_amount
use Rattle.fm_grammar.specs.declared.duration.Duration as code_duration
use Rattle.fm_grammar.specs.declared.item.Item.{Item, the_lemmas}
use Rattle.fm_grammar.specs.declared.item.What.{What}
use Rattle.fm_grammar.specs.declared.item.What.TheVariants as code
use Rattle.fm_grammar.specs.Opening.{filled}
use Rattle.fm_grammar.specs.Score as tree
use Rattle.fm_grammar.specs.View.{PlacedStmt, placed, branches_of, pitch_view, duration_view, amount_view, expr_view, name_view, opening_view, item_view, items_view}

-- lists that are mapped twice
pub map_twice : {A B C : Type 0} (f : B → C) (g : A → B) (xs : List A) → map f (map g xs) ≡ map (λ x. f (g x)) xs
map_twice f g [] = refl
map_twice f g (x ∷ xs) = ap (λ l. f (g x) ∷ l) (map_twice f g xs)

-- a statement of the code at its spot, as plain data
abbrev pub seen : Spot → What → PlacedStmt
seen s w = item_view (record { spot = s; what = w })

-- a note
pub note_seen : (s : Spot) (a : Vec code_pitch.Pitch Global) (b : code_duration.Duration)
    → seen s (code.Note a b) ≡ placed s (tree.note (map pitch_view a.items) (duration_view b))
note_seen s a b = search (rules, the_lemmas)

-- a note of the rhythm's duration
pub play_seen : (s : Spot) (a : Vec code_pitch.Pitch Global)
    → seen s (code.Play a) ≡ placed s (tree.play (map pitch_view a.items))
play_seen s a = search (rules, the_lemmas)

-- a rest
pub rest_seen : (s : Spot) (a : code_duration.Duration)
    → seen s (code.Rest a) ≡ placed s (tree.rest (duration_view a))
rest_seen s a = search (rules, the_lemmas)

-- a rest of the rhythm's duration
pub skip_seen : (s : Spot) → seen s code.Skip ≡ placed s tree.skip
skip_seen s = search (rules, the_lemmas)

-- a control change
pub control_seen : (s : Spot) (a : Number) (b : code_amount.Amount)
    → seen s (code.Control a b) ≡ placed s (tree.control a (amount_view b))
control_seen s a b = search (rules, the_lemmas)

-- a program change
pub program_seen : (s : Spot) (a : code_amount.Amount)
    → seen s (code.Program a) ≡ placed s (tree.program (amount_view a))
program_seen s a = search (rules, the_lemmas)

-- a pitch bend
pub bend_seen : (s : Spot) (a : code_amount.Amount)
    → seen s (code.Bend a) ≡ placed s (tree.bend (amount_view a))
bend_seen s a = search (rules, the_lemmas)

-- the setting of a register
pub set_seen : (s : Spot) (a : ℕ) (b : Expr)
    → seen s (code.Set a b) ≡ placed s (tree.set a (expr_view b))
set_seen s a b = search (rules, the_lemmas)

-- a choice
pub choice_seen : (s : Spot) (a : Expr) (b : Vec Item Global) (c : Vec Item Global)
    → seen s (code.If a b c) ≡ placed s (tree.choice (expr_view a) (items_view b.items) (items_view c.items))
choice_seen s a b c = search (rules, the_lemmas)

-- a statement with one block
pub block_seen : (s : Spot) (a : Opening) (b : Vec Item Global)
    → seen s (code.Block a b) ≡ placed s (filled (opening_view a) (items_view b.items))
block_seen s a b = search (rules, the_lemmas)

-- the call of a phrase
pub call_seen : (s : Spot) (a : Name)
    → seen s (code.Do a) ≡ placed s (tree.call (name_view a))
call_seen s a = search (rules, the_lemmas)

-- a fork
pub par_seen : (s : Spot) (a : Vec (Vec Item Global) Global)
    → seen s (code.Par a) ≡ placed s (tree.par (branches_of (map (λ b. items_view b.items) a.items)))
par_seen s a = search (rules, the_lemmas, map_twice)
