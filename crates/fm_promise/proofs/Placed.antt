-- The third walk, statement by statement: with numbers in range and no fault of the walk, a statement keeps its limits.
use Rattle.std.proofs.Common.{◌≡◌, ◌≤◌, not, [], ◌++◌, ap, arith}
use Rattle.std.specs.Prelude.{◌&&◌, ◌||◌}
use Rattle.std.specs.List.{list_any}
use Rattle.std.proofs.lemmas.Bool.{or_parts}
use Rattle.fm_lex.specs.declared.spot.Spot.{Spot}
use Rattle.fm_meaning.specs.Resolved.{Play, note, rest, send, assign, choice, loop, phrase, par, warp, channel, steady, under, Passage, done, item, Fork, joined, branch}
use Rattle.fm_meaning.specs.Fault.{fault_if, fork_in_choice, play_outside_rhythm, index_outside_loop}
use Rattle.fm_meaning.specs.Places.{Depths, outermost, in_one, in_branching, in_loop, in_warp, in_list, in_fork, depth_faults, has_outside, draw_outside, span_outside, count_outside, is_beat, beat_faults, place_faults, passage_faults, fork_faults, third_walk}
use Rattle.fm_promise.specs.Kept.{Kept, KeptIn, KeptAmong}
use Rattle.fm_promise.proofs.Ranged.{Ranged, RangedIn, RangedAmong}
use Rattle.fm_promise.proofs.Clear.{Clear, has_number, none_told, clear_parts, gathered_clear, depths_kept, expr_in, keys_in, span_in, count_in, point_in}

mutual
  -- a statement
  kept : (spot : Spot) (p : Play) (d : Depths) → d.loops ≤ d.frames → Ranged p → Clear (place_faults spot p d) → Kept d p
  kept spot (note draws span) d low r c =
      let both = clear_parts (beat_faults spot span d)
      (fault_if (list_any (draw_outside d.loops) draws || span_outside d.loops span) spot index_outside_loop) c in
      let inside = or_parts (list_any (draw_outside d.loops) draws) (span_outside d.loops span)
      (none_told index_outside_loop (list_any (draw_outside d.loops) draws || span_outside d.loops span) spot both.1.index) in (
        r.0,
        keys_in d.loops draws r.1 inside.0,
        span_in d span r.2 (none_told play_outside_rhythm (is_beat span && not d.in_rhythm) spot both.0.beat) inside.1,
      )
  kept spot (rest span) d low r c =
      let both = clear_parts (beat_faults spot span d) (fault_if (span_outside d.loops span) spot index_outside_loop) c in
      span_in d span r (none_told play_outside_rhythm (is_beat span && not d.in_rhythm) spot both.0.beat)
      (none_told index_outside_loop (span_outside d.loops span) spot both.1.index)
  kept spot (send point draw) d low r c =
      point_in d.loops point draw r (none_told index_outside_loop (draw_outside d.loops draw) spot c.index)
  kept spot (assign register expr) d low r c =
      (r.0, expr_in d.loops expr r.1 (none_told index_outside_loop (has_outside d.loops expr) spot c.index))
  kept spot (choice expr first second) d low r c =
      let own = fault_if (has_outside d.loops expr) spot index_outside_loop ++ depth_faults spot (in_branching d) in
      let x = passage_faults first (in_branching d) in
      let y = passage_faults second (in_branching d) in
      let last = clear_parts (own ++ x) y c in
      let before = clear_parts own x last.0 in
      let head = clear_parts (fault_if (has_outside d.loops expr) spot index_outside_loop)
      (depth_faults spot (in_branching d)) before.0 in (
        expr_in d.loops expr r.0 (none_told index_outside_loop (has_outside d.loops expr) spot head.0.index),
        kept_in first (in_branching d) low r.1 before.1,
        kept_in second (in_branching d) low r.2 last.1,
      )
  kept spot (loop count body) d low r c =
      let own = fault_if (count_outside d.loops count) spot index_outside_loop in
      let deep = depth_faults spot (in_loop count d) in
      let last = clear_parts (own ++ deep) (passage_faults body (in_loop count d)) c in
      let head = clear_parts own deep last.0 in (
        count_in d.loops count r.0 (none_told index_outside_loop (count_outside d.loops count) spot head.0.index),
        depths_kept spot (in_loop count d) head.1 (omega (arith, low)),
        kept_in body (in_loop count d) (omega (arith, low)) r.1 last.1,
      )
  kept spot (phrase body) d low r c =
      kept_in body (in_one d) low r
      (clear_parts (depth_faults spot (in_one d)) (passage_faults body (in_one d))
      (gathered_clear spot (depth_faults spot (in_one d) ++ passage_faults body (in_one d)) c)).1
  kept spot (par branches) d low r c =
      let own = fault_if d.in_choice spot fork_in_choice in
      let last = clear_parts (own ++ depth_faults spot (in_fork d)) (fork_faults branches (in_fork d)) c in
      let head = clear_parts own (depth_faults spot (in_fork d)) last.0 in
      (none_told fork_in_choice d.in_choice spot head.0.fork, r.0, kept_among branches (in_fork d) low r.1 last.1)
  kept spot (warp parts body) d low r c =
      let both = clear_parts (depth_faults spot (in_warp d)) (passage_faults body (in_warp d)) c in
      (r.0, depths_kept spot (in_warp d) both.0 low, kept_in body (in_warp d) low r.1 both.1)
  kept spot (channel number body) d low r c =
      (r.0, kept_in body (in_one d) low r.1 (clear_parts (depth_faults spot (in_one d)) (passage_faults body (in_one d)) c).1)
  kept spot (steady quality entry body) d low r c =
      (r.0, kept_in body (in_one d) low r.1 (clear_parts (depth_faults spot (in_one d)) (passage_faults body (in_one d)) c).1)
  kept spot (under quality entries body) d low r c =
      let both = clear_parts (depth_faults spot (in_list quality d)) (passage_faults body (in_list quality d)) c in (
        r.0,
        r.1,
        depths_kept spot (in_list quality d) both.0 (omega (arith, low)),
        kept_in body (in_list quality d) (omega (arith, low)) r.2 both.1,
      )

  -- statements in turn
  kept_in : (p : Passage) (d : Depths) → d.loops ≤ d.frames → RangedIn p → Clear (passage_faults p d) → KeptIn d p
  kept_in done d low r c = tt
  kept_in (item spot play more) d low r c =
      let both = clear_parts (place_faults spot play d) (passage_faults more d) c in
      (kept spot play d low r.0 both.0, kept_in more d low r.1 both.1)

  -- branches in turn
  kept_among : (f : Fork) (d : Depths) → d.loops ≤ d.frames → RangedAmong f → Clear (fork_faults f d) → KeptAmong d f
  kept_among joined d low r c = tt
  kept_among (branch body branches) d low r c =
      let both = clear_parts (passage_faults body d) (fork_faults branches d) c in
      (kept_in body d low r.0 both.0, kept_among branches d low r.1 both.1)

-- what is played, where the walk finds nothing
pub walked_kept : (p : Passage) → RangedIn p → third_walk p ≡ [] → KeptIn outermost p
walked_kept p r none =
    kept_in p outermost (omega arith) r (record {
      fork = ap (list_any (has_number 9)) none;
      beat = ap (list_any (has_number 10)) none;
      index = ap (list_any (has_number 11)) none;
      deep = ap (list_any (has_number 12)) none;
    })
