-- The second walk: where it finds nothing, each number of what is played lies in its range.
use Rattle.std.proofs.Common.{◌≡◌, ℕ, zero, suc, ◌*◌, ◌/◌, ◌%◌, ◌<◌, ◌≤◌, Bool, true, false, List, [], ◌∷◌, ◌++◌, map, length, refl, ap, ◌∙◌, arith, true≢false, ℤ, pos, negsuc, ◌-ℤ◌, neg_ℤ, is_some}
use Rattle.std.specs.Prelude.{◌&&◌, ◌||◌, nat_lt, nat_le, nat_eq, int_lt, int_le}
use Rattle.std.specs.List.{AllByRecursion, list_all}
use Rattle.std.proofs.lemmas.Bool.{and_from, and_parts, or_parts, ltb-false, le-leb, lt-ltb}
use Rattle.std.proofs.lemmas.List.{length-map}
use Rattle.fm_lex.specs.declared.spot.Spot.{Spot}
use Rattle.fm_value.specs.declared.node.Node.{Node}
use Rattle.fm_value.specs.declared.node.Node.TheVariants as nodes
use Rattle.fm_value.specs.declared.node.TheConstants.{MAX_VALUE}
use Rattle.fm_value.specs.declared.expr.TheConstants.{MAX_NODES}
use Rattle.fm_value.specs.declared.expr.Spot2.{Spot2}
use Rattle.fm_value.specs.declared.registers.TheConstants.{REGISTERS}
use Rattle.fm_value.specs.Tree.{tree_of}
use Rattle.fm_grammar.specs.declared.number.Number.{Number}
use Rattle.fm_grammar.specs.declared.length.Length.{Length}
use Rattle.fm_grammar.specs.declared.length.Length.TheVariants.{Share, Ticks}
use Rattle.fm_grammar.specs.Score as text
use Rattle.fm_grammar.specs.Standing.{PlacedNode}
use Rattle.fm_meaning.specs.Rules.{most_ticks, most_rounds, most_data, most_gate, bend_centre, most_bend, most_pitches}
use Rattle.fm_meaning.specs.Resolved.{DataSource, given, drawn, LengthSource, ticks, counted, beat, RoundSource, times, at_most, PointKind, control, program, bend, duration, articulation, loudness}
use Rattle.fm_meaning.specs.Resolve.{length_ticks, draw_of, key_draw, span_of}
use Rattle.fm_meaning.specs.Fault.{NumberedFault, fault_if, out_of_range, not_ticks}
use Rattle.fm_meaning.specs.Ranges.{number_faults, share_faults, length_faults, literal_faults, spot_of, node_faults, expr_faults, amount_faults, duration_faults, each_faults, pitch_spot, pitch_faults, pitches_faults}
use Rattle.fm_promise.specs.Kept.{entry_kept, has_some_to}
use Rattle.fm_promise.proofs.Formed.{node_there, IsPostfix, AmountFormed, DurationFormed, PitchFormed, PitchesFormed}

-- ---- what is said of what is played, apart from what is open

-- a node's number is in range; an index may name any loop
abbrev pub node_fair : Node → Bool
node_fair (nodes.Literal n) = nat_le n MAX_VALUE
node_fair (nodes.Register k) = nat_lt k REGISTERS
node_fair n = true

-- an expression
abbrev pub expr_fair : List Node → Bool
expr_fair e = nat_le (length e) MAX_NODES && is_some (tree_of e) && list_all node_fair e

-- a number of a message
abbrev pub draw_fair : (least most : ℤ) → DataSource → Bool
draw_fair least most (given v) = int_le least v && int_le v most
draw_fair least most (drawn e) = expr_fair e

-- the key of a note
abbrev pub key_fair : DataSource → Bool
key_fair draw = draw_fair (pos 0) (pos most_data) draw

-- a duration
abbrev pub span_fair : LengthSource → Bool
span_fair (ticks n) = nat_le n most_ticks
span_fair (counted e most) = nat_le most most_ticks && expr_fair e
span_fair beat = true

-- a count of rounds
abbrev pub count_fair : RoundSource → Bool
count_fair (times n) = nat_le n most_rounds
count_fair (at_most e most) = nat_le most most_rounds && expr_fair e

-- a message without a length
abbrev pub point_fair : PointKind → DataSource → Bool
point_fair (control c) draw = nat_le c most_data && key_fair draw
point_fair program draw = key_fair draw
point_fair bend draw = draw_fair (neg_ℤ (pos bend_centre)) (pos most_bend -ℤ pos bend_centre) draw

-- ---- lists of faults that are empty

-- two lists of none
pub none_both : {A : Type 0} (xs ys : List A) → xs ++ ys ≡ [] → (xs ≡ []) × (ys ≡ [])
none_both [] ys is = (refl, is)
none_both (x ∷ xs) ys is = absurd (omega (arith, ap length is))

-- a fault that is not there
pub told : (b : Bool) (s : Spot) (n : ℕ) → fault_if b s n ≡ [] → b ≡ false
told false s n is = refl
told true s n is = absurd (omega (arith, ap length is))

-- ---- numbers

-- a number in its range
pub number_fair : (least most : ℕ) (n : Number) → number_faults least most n ≡ [] → (least ≤ n.value) × (n.value ≤ most)
number_fair least most n none =
    let both = or_parts (nat_lt n.value least) (nat_lt most n.value)
    (told (nat_lt n.value least || nat_lt most n.value) n.spot out_of_range none) in
    (ltb-false n.value least both.0, ltb-false most n.value both.1)

-- a part of a whole note
share_by : (whole : ℕ) (a b : Number) (p q : Bool) → nat_eq b.value 0 ≡ p → nat_eq (whole * a.value % b.value) 0 ≡ q
    → share_faults whole a b ≡ [] → whole * a.value / b.value ≤ most_ticks
share_by whole a b true q first second none =
    let one : fault_if true a.spot out_of_range ≡ [] = rw first at none in absurd (omega (arith, ap length one))
share_by whole a b false true first second none =
    let one : fault_if (nat_lt most_ticks (whole * a.value / b.value)) a.spot out_of_range ≡ [] = rw (first, second) at none in
    ltb-false most_ticks (whole * a.value / b.value)
    (told (nat_lt most_ticks (whole * a.value / b.value)) a.spot out_of_range one)
share_by whole a b false false first second none =
    let one : fault_if true a.spot not_ticks ≡ [] = rw (first, second) at none in absurd (omega (arith, ap length one))

-- a length
pub length_fair : (whole : ℕ) (l : Length) → length_faults whole l ≡ [] → length_ticks whole l ≤ most_ticks
length_fair whole (Share a b) none =
    share_by whole a b (nat_eq b.value 0) (nat_eq (whole * a.value % b.value) 0) refl refl none
length_fair whole (Ticks n) none = (number_fair 0 most_ticks n none).1

-- an integer that is not below another
not_below : (a b : ℤ) → int_lt a b ≡ false → int_le b a ≡ true
not_below (pos a) (pos b) is = le-leb b a (ltb-false a b is)
not_below (pos a) (negsuc b) is = refl
not_below (negsuc a) (pos b) is = absurd (true≢false is)
not_below (negsuc a) (negsuc b) is = le-leb a b (ltb-false b a is)

-- a literal
literal_fair : (least most v : ℤ) (s : Spot) → literal_faults least most v s ≡ [] → (int_le least v && int_le v most) ≡ true
literal_fair least most v s none =
    let both = or_parts (int_lt v least) (int_lt most v) (told (int_lt v least || int_lt most v) s out_of_range none) in
    and_from (int_le least v) (int_le v most) (not_below v least both.0) (not_below most v both.1)

-- ---- expressions

-- a node and those behind it
node_first : (n : Node) (s : Spot2) (ns : List Node) (ss : List Spot2) → node_there n ≡ true
    → node_faults (n ∷ ns) (s ∷ ss) ≡ [] → (node_fair n ≡ true) × (node_faults ns ss ≡ [])
node_first (nodes.Literal n) s ns ss there none =
    let both = none_both (fault_if (nat_lt MAX_VALUE n) (spot_of s) out_of_range) (node_faults ns ss) none in
    (le-leb n MAX_VALUE (ltb-false MAX_VALUE n (told (nat_lt MAX_VALUE n) (spot_of s) out_of_range both.0)), both.1)
node_first (nodes.Register k) s ns ss there none = (there, none)
node_first (nodes.Index k) s ns ss there none = (refl, none)
node_first nodes.Negate s ns ss there none = (refl, none)
node_first nodes.Add s ns ss there none = (refl, none)
node_first nodes.Subtract s ns ss there none = (refl, none)
node_first nodes.Multiply s ns ss there none = (refl, none)
node_first nodes.Divide s ns ss there none = (refl, none)
node_first nodes.Remain s ns ss there none = (refl, none)
node_first nodes.Pick s ns ss there none = (refl, none)
node_first nodes.Min s ns ss there none = (refl, none)
node_first nodes.Max s ns ss there none = (refl, none)
node_first nodes.Less s ns ss there none = (refl, none)
node_first nodes.Same s ns ss there none = (refl, none)

-- all nodes
nodes_fair : (ps : List PlacedNode) → list_all node_there (map (λ p. p.node) ps) ≡ true
    → node_faults (map (λ p. p.node) ps) (map (λ p. p.spot) ps) ≡ [] → list_all node_fair (map (λ p. p.node) ps) ≡ true
nodes_fair [] there none = refl
nodes_fair (p ∷ ps) there none =
    let both = and_parts (node_there p.node) (list_all node_there (map (λ q. q.node) ps)) there in
    let one = node_first p.node p.spot (map (λ q. q.node) ps) (map (λ q. q.spot) ps) both.0 none in
    and_from (node_fair p.node) (list_all node_fair (map (λ q. q.node) ps)) one.0 (nodes_fair ps both.1 one.1)

-- an expression
pub postfix_fair : (e : text.Postfix) → IsPostfix e → expr_faults e ≡ [] → expr_fair e.nodes ≡ true
postfix_fair e f none =
    let there : list_all node_there (map (λ p. p.node) f.places) ≡ true = rw f.nodes at f.registers in
    let clear : node_faults (map (λ p. p.node) f.places) (map (λ p. p.spot) f.places) ≡ [] = rw (f.nodes, f.spots) at none in
    let fair : list_all node_fair e.nodes ≡ true = ap (list_all node_fair) f.nodes ∙ nodes_fair f.places there clear in
    and_from (nat_le (length e.nodes) MAX_NODES && is_some (tree_of e.nodes)) (list_all node_fair e.nodes)
    (and_from (nat_le (length e.nodes) MAX_NODES) (is_some (tree_of e.nodes)) (le-leb (length e.nodes) MAX_NODES f.few)
    (ap is_some f.whole)) fair

-- ---- what is made of expressions

-- a number of a message
pub amount_fair : (least most : ℤ) (a : text.Amount) → AmountFormed a → amount_faults least most a ≡ []
    → draw_fair least most (draw_of a) ≡ true
amount_fair least most (text.literal v s) formed none = literal_fair least most v s none
amount_fair least most (text.Amount.computed e) formed none = postfix_fair e formed none

-- a duration
pub duration_fair : (whole : ℕ) (d : text.Duration) → DurationFormed d → duration_faults whole d ≡ []
    → span_fair (span_of whole d) ≡ true
duration_fair whole (text.fixed l) formed none = le-leb (length_ticks whole l) most_ticks (length_fair whole l none)
duration_fair whole (text.Duration.computed e most) formed none =
    let both = none_both (expr_faults e) (number_faults 0 most_ticks most) none in
    and_from (nat_le most.value most_ticks) (expr_fair e.nodes)
    (le-leb most.value most_ticks (number_fair 0 most_ticks most both.1).1) (postfix_fair e formed both.0)

-- a pitch
key_is_fair : (p : text.Pitch) → PitchFormed p → pitch_faults p ≡ [] → key_fair (key_draw p) ≡ true
key_is_fair (text.named key s) formed none =
    and_from (nat_le 0 key) (nat_le key most_data) (le-leb 0 key (omega arith))
    (le-leb key most_data (ltb-false most_data key (told (nat_lt most_data key) s out_of_range none)))
key_is_fair (text.keyed a s) formed none = amount_fair (pos 0) (pos most_data) a formed none

-- ---- lists

-- entries without a fault are not too many
pub each_fair : {A : Type 0} (faults : A → List NumberedFault) (spot : A → Spot) (most : ℕ) (xs : List A)
    → each_faults faults spot most xs ≡ [] → (length xs ≤ most) × AllByRecursion (λ x. faults x ≡ []) xs
each_fair faults spot most [] none = (omega arith, tt)
each_fair faults spot zero (x ∷ xs) none = absurd (omega (arith, ap length none))
each_fair faults spot (suc most) (x ∷ xs) none =
    let both = none_both (faults x) (each_faults faults spot most xs) none in
    let others = each_fair faults spot most xs both.1 in (omega (arith, others.0), (both.0, others.1))

-- entries, mapped, that are some and not too many
pub some_fair : {A B : Type 0} (f : A → B) (most : ℕ) (xs : List A) → 0 < length xs → length xs ≤ most
    → has_some_to most (map f xs) ≡ true
some_fair f most xs some few =
    and_from (nat_lt 0 (length (map f xs))) (nat_le (length (map f xs)) most)
    (lt-ltb 0 (length (map f xs)) (omega (arith, some, length-map xs f)))
    (le-leb (length (map f xs)) most (omega (arith, few, length-map xs f)))

-- entries, mapped, of which each passes a test
pub all_fair : {A B : Type 0} (f : A → B) (test : B → Bool) (xs : List A) → AllByRecursion (λ x. test (f x) ≡ true) xs
    → list_all test (map f xs) ≡ true
all_fair f test [] all = refl
all_fair f test (x ∷ xs) all = and_from (test (f x)) (list_all test (map f xs)) all.0 (all_fair f test xs all.1)

-- the pitches of a note
keys_fair : (ps : List text.Pitch) → AllByRecursion PitchFormed ps → AllByRecursion (λ p. pitch_faults p ≡ []) ps
    → AllByRecursion (λ p. key_fair (key_draw p) ≡ true) ps
keys_fair [] formed none = tt
keys_fair (p ∷ ps) formed none = (key_is_fair p formed.0 none.0, keys_fair ps formed.1 none.1)

pub pitches_fair : (ps : List text.Pitch) → PitchesFormed ps → pitches_faults ps ≡ []
    → (has_some_to most_pitches (map key_draw ps) ≡ true) × (list_all key_fair (map key_draw ps) ≡ true)
pitches_fair ps formed none =
    let each = each_fair pitch_faults pitch_spot most_pitches ps none in
    (some_fair key_draw most_pitches ps formed.0 each.0, all_fair key_draw key_fair ps (keys_fair ps formed.1 each.1))

-- entries of a rhythm
pub lengths_fair : (whole : ℕ) (ls : List Length) → AllByRecursion (λ l. length_faults whole l ≡ []) ls
    → AllByRecursion (λ l. entry_kept duration (length_ticks whole l) ≡ true) ls
lengths_fair whole [] none = tt
lengths_fair whole (l ∷ ls) none =
    (le-leb (length_ticks whole l) most_ticks (length_fair whole l none.0), lengths_fair whole ls none.1)

-- percentages
pub gates_fair : (ns : List Number) → AllByRecursion (λ n. number_faults 0 most_gate n ≡ []) ns
    → AllByRecursion (λ n. entry_kept articulation n.value ≡ true) ns
gates_fair [] none = tt
gates_fair (n ∷ ns) none = (le-leb n.value most_gate (number_fair 0 most_gate n none.0).1, gates_fair ns none.1)

-- a velocity
pub velocity_fair : (n : Number) → number_faults 1 most_data n ≡ [] → entry_kept loudness n.value ≡ true
velocity_fair n none =
    let both = number_fair 1 most_data n none in
    and_from (nat_le 1 n.value) (nat_le n.value most_data) (le-leb 1 n.value both.0) (le-leb n.value most_data both.1)

-- velocities
pub velocities_fair : (ns : List Number) → AllByRecursion (λ n. number_faults 1 most_data n ≡ []) ns
    → AllByRecursion (λ n. entry_kept loudness n.value ≡ true) ns
velocities_fair [] none = tt
velocities_fair (n ∷ ns) none = (velocity_fair n none.0, velocities_fair ns none.1)
