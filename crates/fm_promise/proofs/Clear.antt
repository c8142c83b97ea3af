-- The third walk: lists that have none of its faults.
use Rattle.std.proofs.Common.{◌≡◌, ℕ, ◌≤◌, Bool, true, false, not, List, [], ◌∷◌, ◌++◌, length, refl, sym, ◌∙◌, true≢false, ℤ, pos, neg_ℤ, ◌-ℤ◌, is_some}
use Rattle.std.specs.Prelude.{◌&&◌, ◌||◌, nat_lt, nat_le, nat_eq, flat_map}
use Rattle.std.specs.List.{list_all, list_any}
use Rattle.std.proofs.lemmas.Bool.{and_from, and_parts, or_parts, or_from, ltb-false, leb-false, lt-ltb, eq-eqb}
use Rattle.fm_lex.specs.declared.spot.Spot.{Spot}
use Rattle.fm_value.specs.declared.node.Node.{Node}
use Rattle.fm_value.specs.declared.node.Node.TheVariants as nodes
use Rattle.fm_value.specs.declared.expr.TheConstants.{MAX_NODES}
use Rattle.fm_value.specs.Tree.{tree_of}
use Rattle.fm_value.specs.Value.{node_fits, is_expr}
use Rattle.fm_meaning.specs.Rules.{most_ticks, most_rounds, most_data, bend_centre, most_bend, most_warps, most_frames, most_blocks}
use Rattle.fm_meaning.specs.Resolved.{DataSource, given, drawn, LengthSource, ticks, counted, beat, RoundSource, times, at_most, PointKind, control, program, bend}
use Rattle.fm_meaning.specs.Fault.{NumberedFault, fault_if, fork_in_choice, play_outside_rhythm, index_outside_loop, too_deep}
use Rattle.fm_meaning.specs.Places.{Depths, depth_faults, is_outside, has_outside, draw_outside, span_outside, count_outside, is_beat, gathered}
use Rattle.fm_promise.specs.Kept.{DepthsKept, draw_kept, key_kept, span_kept, count_kept, point_kept}
use Rattle.fm_promise.proofs.Fair.{node_fair, expr_fair, draw_fair, key_fair, span_fair, count_fair, point_fair}

-- ---- none of a number

-- whether a fault has a number
abbrev pub has_number : ℕ → NumberedFault → Bool
has_number n f = nat_eq f.number n

-- none of a list has
abbrev pub None_of : ℕ → List NumberedFault → Type 0
None_of n fs = list_any (has_number n) fs ≡ false

-- so with both parts of a list
pub none_parts : (n : ℕ) (xs ys : List NumberedFault) → None_of n (xs ++ ys) → None_of n xs × None_of n ys
none_parts n [] ys none = (refl, none)
none_parts n (x ∷ xs) ys none =
    let both = or_parts (has_number n x) (list_any (has_number n) (xs ++ ys)) none in
    let others = none_parts n xs ys both.1 in
    (or_from (has_number n x) (list_any (has_number n) xs) both.0 others.0, others.1)

-- a fault of that number is not there
pub none_told : (n : ℕ) (b : Bool) (spot : Spot) → None_of n (fault_if b spot n) → b ≡ false
none_told n false spot none = refl
none_told n true spot none =
    absurd (true≢false (sym (eq-eqb n n refl) ∙ (or_parts (nat_eq n n) false none).0))

-- none of the four faults of the walk is in a list
pub record Clear (fs : List NumberedFault) : Type 0 where
  pub fork : None_of fork_in_choice fs
  pub beat : None_of play_outside_rhythm fs
  pub index : None_of index_outside_loop fs
  pub deep : None_of too_deep fs

-- nor in its parts
pub clear_parts : (xs ys : List NumberedFault) → Clear (xs ++ ys) → Clear xs × Clear ys
clear_parts xs ys c =
    let fork = none_parts fork_in_choice xs ys c.fork in
    let beat = none_parts play_outside_rhythm xs ys c.beat in
    let index = none_parts index_outside_loop xs ys c.index in
    let deep = none_parts too_deep xs ys c.deep in (
      record { fork = fork.0; beat = beat.0; index = index.0; deep = deep.0 },
      record { fork = fork.1; beat = beat.1; index = index.1; deep = deep.1 },
    )

-- where the faults of a phrase at its statement are clear, so are those of its statements
pub gathered_clear : (spot : Spot) (fs : List NumberedFault) → Clear (gathered spot fs) → Clear fs
gathered_clear spot fs c =
    let of : ℕ → List NumberedFault = λ n. fault_if (list_any (λ f. nat_eq f.number n) fs) spot n in
    let after_fork = flat_map of (play_outside_rhythm ∷ index_outside_loop ∷ too_deep ∷ []) in
    let after_beat = flat_map of (index_outside_loop ∷ too_deep ∷ []) in
    let after_index = flat_map of (too_deep ∷ []) in
    let one = clear_parts (of fork_in_choice) after_fork c in
    let two = clear_parts (of play_outside_rhythm) after_beat one.1 in
    let three = clear_parts (of index_outside_loop) after_index two.1 in
    let four = clear_parts (of too_deep) [] three.1 in
    record {
      fork = none_told fork_in_choice (list_any (has_number fork_in_choice) fs) spot one.0.fork;
      beat = none_told play_outside_rhythm (list_any (has_number play_outside_rhythm) fs) spot two.0.beat;
      index = none_told index_outside_loop (list_any (has_number index_outside_loop) fs) spot three.0.index;
      deep = none_told too_deep (list_any (has_number too_deep) fs) spot four.0.deep;
    }

-- ---- depths

-- what is open is not too deep
pub depths_kept : (spot : Spot) (d : Depths) → Clear (depth_faults spot d) → d.loops ≤ d.frames → DepthsKept d
depths_kept spot d c low =
    let not_deep = none_told too_deep
    (nat_lt most_warps d.warps || nat_lt most_frames d.frames || nat_lt most_blocks d.blocks) spot c.deep in
    let both = or_parts (nat_lt most_warps d.warps || nat_lt most_frames d.frames) (nat_lt most_blocks d.blocks) not_deep in
    let two = or_parts (nat_lt most_warps d.warps) (nat_lt most_frames d.frames) both.0 in
    record { warps = ltb-false most_warps d.warps two.0; frames = ltb-false most_frames d.frames two.1; loops = low }

-- ---- expressions

-- a node reads a loop that is open
node_in : (loops : ℕ) (n : Node) → node_fair n ≡ true → is_outside loops n ≡ false → node_fits loops n ≡ true
node_in loops (nodes.Literal n) fair inside = fair
node_in loops (nodes.Register k) fair inside = fair
node_in loops (nodes.Index k) fair inside = lt-ltb k loops (leb-false loops k inside)
node_in loops nodes.Negate fair inside = refl
node_in loops nodes.Add fair inside = refl
node_in loops nodes.Subtract fair inside = refl
node_in loops nodes.Multiply fair inside = refl
node_in loops nodes.Divide fair inside = refl
node_in loops nodes.Remain fair inside = refl
node_in loops nodes.Pick fair inside = refl
node_in loops nodes.Min fair inside = refl
node_in loops nodes.Max fair inside = refl
node_in loops nodes.Less fair inside = refl
node_in loops nodes.Same fair inside = refl

-- all nodes of an expression do
nodes_in : (loops : ℕ) (ns : List Node) → list_all node_fair ns ≡ true → has_outside loops ns ≡ false
    → list_all (node_fits loops) ns ≡ true
nodes_in loops [] fair inside = refl
nodes_in loops (n ∷ ns) fair inside =
    let f = and_parts (node_fair n) (list_all node_fair ns) fair in
    let i = or_parts (is_outside loops n) (list_any (is_outside loops) ns) inside in
    and_from (node_fits loops n) (list_all (node_fits loops) ns) (node_in loops n f.0 i.0) (nodes_in loops ns f.1 i.1)

-- an expression
pub expr_in : (loops : ℕ) (e : List Node) → expr_fair e ≡ true → has_outside loops e ≡ false → is_expr loops e ≡ true
expr_in loops e fair inside =
    let both = and_parts (nat_le (length e) MAX_NODES && is_some (tree_of e)) (list_all node_fair e) fair in
    and_from (nat_le (length e) MAX_NODES && is_some (tree_of e)) (list_all (node_fits loops) e) both.0
    (nodes_in loops e both.1 inside)

-- a number of a message
pub draw_in : (least most : ℤ) (loops : ℕ) (draw : DataSource) → draw_fair least most draw ≡ true → draw_outside loops draw ≡ false
    → draw_kept least most loops draw ≡ true
draw_in least most loops (given v) fair inside = fair
draw_in least most loops (drawn e) fair inside = expr_in loops e fair inside

-- the keys of a note
pub keys_in : (loops : ℕ) (draws : List DataSource) → list_all key_fair draws ≡ true → list_any (draw_outside loops) draws ≡ false
    → list_all (key_kept loops) draws ≡ true
keys_in loops [] fair inside = refl
keys_in loops (x ∷ xs) fair inside =
    let f = and_parts (key_fair x) (list_all key_fair xs) fair in
    let i = or_parts (draw_outside loops x) (list_any (draw_outside loops) xs) inside in
    and_from (key_kept loops x) (list_all (key_kept loops) xs) (draw_in (pos 0) (pos most_data) loops x f.0 i.0)
    (keys_in loops xs f.1 i.1)

-- a rhythm that is open
open_rhythm : (b : Bool) → true && not b ≡ false → b ≡ true
open_rhythm true is = refl
open_rhythm false is = sym is

-- a duration
pub span_in : (d : Depths) (span : LengthSource) → span_fair span ≡ true → is_beat span && not d.in_rhythm ≡ false
    → span_outside d.loops span ≡ false → span_kept d span ≡ true
span_in d (ticks n) fair rhythm inside = fair
span_in d (counted e most) fair rhythm inside =
    let both = and_parts (nat_le most most_ticks) (expr_fair e) fair in
    and_from (nat_le most most_ticks) (is_expr d.loops e) both.0 (expr_in d.loops e both.1 inside)
span_in d beat fair rhythm inside = open_rhythm d.in_rhythm rhythm

-- a count
pub count_in : (loops : ℕ) (count : RoundSource) → count_fair count ≡ true → count_outside loops count ≡ false
    → count_kept loops count ≡ true
count_in loops (times n) fair inside = fair
count_in loops (at_most e most) fair inside =
    let both = and_parts (nat_le most most_rounds) (expr_fair e) fair in
    and_from (nat_le most most_rounds) (is_expr loops e) both.0 (expr_in loops e both.1 inside)

-- a message without a length
pub point_in : (loops : ℕ) (point : PointKind) (draw : DataSource) → point_fair point draw ≡ true → draw_outside loops draw ≡ false
    → point_kept loops point draw ≡ true
point_in loops (control c) draw fair inside =
    let both = and_parts (nat_le c most_data) (key_fair draw) fair in
    and_from (nat_le c most_data) (key_kept loops draw) both.0 (draw_in (pos 0) (pos most_data) loops draw both.1 inside)
point_in loops program draw fair inside = draw_in (pos 0) (pos most_data) loops draw fair inside
point_in loops bend draw fair inside =
    draw_in (neg_ℤ (pos bend_centre)) (pos most_bend -ℤ pos bend_centre) loops draw fair inside
