-- Blocks and branches that grow, and the tables behind them.
use Rattle.std.proofs.Common.{◌≡◌, ℕ, suc, ◌+◌, ◌<◌, List, [], ◌∷◌, ◌++◌, map, drop, length, get_or, refl, ap, sym, ◌∙◌, add-one}
use Rattle.std.proofs.Math.Seq.{drop-cons}
use Rattle.fm_lex.specs.declared.spot.Spot.{Spot}
use Rattle.fm_grammar.specs.Score as text
use Rattle.fm_grammar.specs.declared.item.Item.{Item}
use Rattle.fm_grammar.specs.View.{item_view, items_view, branches_of}
use Rattle.fm_expansion.specs.Outline as plain
use Rattle.fm_expansion.specs.Numbering.{Catalogue, Numbered, numbered, instruction_of, block_of, expr_added}
use Rattle.fm_outline.specs.View.{Placed, before}
use Rattle.fm_outline.specs.Growing.{followed}

-- a statement more in front of the others
before_more : (ps : List Placed) (p : Placed) (b : plain.Block)
    → before (ps ++ p ∷ []) b ≡ before ps (plain.item p.spot p.what b)
before_more [] p b = refl
before_more (q ∷ ps) p b = ap (plain.item q.spot q.what) (before_more ps p b)

-- the statements from one on
pub items_from : (xs : List Item) (i : ℕ) (x : Item) → i < length xs → x ≡ get_or xs i x
    → items_view (drop i xs) ≡ text.then (item_view x).spot (item_view x).what (items_view (drop (i + 1) xs))
items_from xs i x within is =
    ap items_view (drop-cons xs i x within)
    ∙ ap (λ y. text.then (item_view y).spot (item_view y).what (items_view (drop (suc i) xs))) (sym is)
    ∙ ap (λ n. text.then (item_view x).spot (item_view x).what (items_view (drop n xs))) (sym (add-one i))

-- a statement at a spot
abbrev pub placed : Spot → plain.Instruction → Placed
placed spot what = record { spot = spot; what = what }

-- one statement more is done, before what comes of the tables behind it
pub placed_more : (f : plain.Tables → Numbered plain.Block) (spot : Spot) (ps : List Placed) (what : plain.Instruction)
    (x : Numbered plain.Instruction) (u : plain.Tables) → numbered what u ≡ x
    → followed ps (numbered (plain.item spot x.value (f x.tables).value) (f x.tables).tables)
    ≡ followed (ps ++ placed spot what ∷ []) (f u)
placed_more f spot ps what x u is =
    ap (λ y. followed ps (numbered (plain.item spot y.value (f y.tables).value) (f y.tables).tables)) (sym is)
    ∙ ap (λ b. numbered b (f u).tables) (sym (before_more ps (placed spot what) (f u).value))

-- the branches from one on
pub arms_from : {A : Type 0} (view : A → text.Body) (xs : List A) (i : ℕ) (x : A) → i < length xs → x ≡ get_or xs i x
    → branches_of (map view (drop i xs)) ≡ text.branch (view x) (branches_of (map view (drop (i + 1) xs)))
arms_from view xs i x within is =
    ap (λ l. branches_of (map view l)) (drop-cons xs i x within)
    ∙ ap (λ y. text.branch (view y) (branches_of (map view (drop (suc i) xs)))) (sym is)
    ∙ ap (λ n. text.branch (view x) (branches_of (map view (drop n xs)))) (sym (add-one i))

-- a choice
pub choice_numbered : (k : Catalogue) (e : text.Postfix) (a b : text.Body) (x y : plain.Block) (p : ℕ)
    (t t1 t2 t3 : plain.Tables) → p ≡ length t.exprs → t1 ≡ expr_added e.nodes t
    → numbered x t2 ≡ block_of k a t1 → numbered y t3 ≡ block_of k b t2
    → numbered (plain.choice p x y) t3 ≡ instruction_of k (text.choice e a b) t
choice_numbered k e a b x y p t t1 t2 t3 at added first second =
    ap (λ v. numbered (plain.choice p x v.value) v.tables) second
    ∙ ap (λ v. numbered (plain.choice p v.value (block_of k b v.tables).value) (block_of k b v.tables).tables)
    (first ∙ ap (block_of k a) added)
    ∙ ap
    (λ n. numbered
    (plain.choice n (block_of k a (expr_added e.nodes t)).value (block_of k b (block_of k a (expr_added e.nodes t)).tables).value)
    (block_of k b (block_of k a (expr_added e.nodes t)).tables).tables)
    at
