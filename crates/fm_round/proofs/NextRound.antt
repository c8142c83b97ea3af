-- From round to round: what a release and a round leave.
use Rattle.std.proofs.Common.{◌≡◌, ℕ, ◌+◌, ◌<◌, ◌≤◌, List, [], length, map, drop, get_or, Bool, true, false, Option, Some, None, refl, sym, ap, ◌∙◌, subst, arith}
use Rattle.std.proofs.lemmas.List.{length-map}
use Rattle.fm_edge.specs.Seen.{SinkSeen}
use Rattle.fm_msg.specs.Event.{TimedMessage}
use Rattle.fm_line.specs.Line.{line}
use Rattle.fm_line.specs.Piece.{In, sorted}
use Rattle.fm_line.proofs.Members.{in_at}
use Rattle.fm_buffer.specs.Outbox.{count_through}
use Rattle.fm_buffer.specs.Gather.{EventGather}
use Rattle.fm_program.specs.Parts.{PlanParts}
use Rattle.fm_program.specs.Process.{plan_lines}
use Rattle.fm_smf.specs.Writing.{Written, Writes}
use Rattle.fm_strand.specs.declared.strand.Strand.{Strand}
use Rattle.fm_strand.specs.Strand.{clock_of}
use Rattle.fm_round.specs.declared.lane.Lane.{Lane}
use Rattle.fm_round.specs.Lefts.{IsOwn, joined}
use Rattle.fm_round.specs.Halfway.{Between}
use Rattle.fm_round.specs.Lanes.{AllStarted, CanRun, IsLeast, IsRun, RunsAll, due, left, lefts, loads, run_clock, lane, without_due, yet}
use Rattle.fm_round.specs.Turns.{AllFrom, Turned}
use Rattle.fm_round.specs.declared.watch.Watch.{Watch}
use Rattle.fm_round.proofs.Order.{IsDue, none_stays}
use Rattle.fm_round.proofs.Parting.{own_front}
use Rattle.fm_round.proofs.Releasing.{own_at}
use Rattle.fm_round.proofs.Running.{loads-release, lane-map}
use Rattle.fm_round.proofs.Between.{Interval, between_kept, between_released, is_due_at, next_first, next_from, room_at, same_count}

-- what a release and a round leave for a turn: so many events of the piece are written, nothing that is left lies before
-- the tick, and after a turn there is less to do than before the release
pub record HasRan {K : Type 0} (seen : SinkSeen K) (p : PlanParts) (room : ℕ) (begin now : K) (first writer : Written)
    (old ran : List Lane) (gather : EventGather) (tick events : ℕ) : Type 0 where
  pub between : Between seen p room begin now first writer ran gather events
  pub from : AllFrom tick 0 (lefts p (plan_lines p) ran)
  pub falls : (w : Watch) (new : List Lane) → Turned p w ran new → loads p 0 new < loads p 0 old

module _ {K : Type 0} {seen : SinkSeen K} {p : PlanParts} (here : Interval seen p)
    (started : AllStarted p here.lanes (length here.lanes)) (c m limit : ℕ) (least : IsLeast p here.lanes (length here.lanes) c m)
    (near : c ≤ limit) {then : K} {after : Written} {released_lanes ran : List Lane} {gather' : EventGather}
    (took : released_lanes ≡ map (without_due (Some (c, m))) here.lanes)
    (wrote : Writes seen here.now then (sorted (joined (map (due (Some (c, m))) here.lanes))) here.writer after)
    (cleared : gather' ≡ here.gather) (runs : RunsAll p limit released_lanes ran) (long : length ran ≡ length released_lanes) where
  -- the process of the least pair may run
  can_run : CanRun p limit (lane released_lanes m)
  can_run =
      let there = least.inside in
      let lined = same_count here in
      let all : IsOwn m (left p (line (plan_lines p) m).events (lane here.lanes m)) =
      subst (λ (n : ℕ). IsOwn n (left p (line (plan_lines p) m).events (lane here.lanes m))) zero_add
      (own_at p 0 (plan_lines p) here.lanes m here.between.playing.own (omega arith) there) in
      let own = own_front m (lane here.lanes m).outbox.events (yet p (line (plan_lines p) m).events (lane here.lanes m).strand) all in
      let empty : drop (count_through (Some (c, m)) (lane here.lanes m).outbox.events) (lane here.lanes m).outbox.events ≡ [] =
      none_stays c m (lane here.lanes m).outbox.events (λ e i. due_at e i (own.process e i)) in
      subst (CanRun p limit) (sym (ap (λ (xs : List Lane). lane xs m) took ∙ lane-map (Some (c, m)) here.lanes m)) (record {
        clock = c;
        live = least.clock;
        in_time = near;
        room = let free = room_at here.lanes m here.room there here.between.rooms in
            let some = here.between.some in let none = ap length empty in omega arith;
      })
    where
      zero_add : 0 + m ≡ m
      zero_add = omega arith

      by_run : (ended : Bool) (strand : Option Strand) → (lane here.lanes m).ended ≡ ended → (lane here.lanes m).strand ≡ strand
          → IsRun p m ended (lane here.lanes m).outbox.events strand → (e : TimedMessage) → In e (lane here.lanes m).outbox.events → e.time ≤ c
      by_run true strand is_ended is_strand run e i =
          let never : None ≡ Some c = sym (ap (λ b. run_clock p b (lane here.lanes m).strand) is_ended) ∙ least.clock in cc
      by_run false None is_ended is_strand run e i =
          let never : None ≡ Some c = sym (rw (is_ended, is_strand) refl) ∙ least.clock in cc
      by_run false (Some t) is_ended is_strand run e i =
          let same : Some (clock_of p t) ≡ Some c = sym (rw (is_ended, is_strand) refl) ∙ least.clock in
          let clock : clock_of p t ≡ c = cc in
          let at = in_at e e (lane here.lanes m).outbox.events i in
          let early : (get_or (lane here.lanes m).outbox.events at.index e).time ≤ clock_of p t = run.early at.index e at.below in
          let is = ap (λ (x : TimedMessage). x.time) at.is in omega arith

      due_at : (e : TimedMessage) → In e (lane here.lanes m).outbox.events → e.process ≡ m → IsDue c m e
      due_at e i process =
          is_due_at c m e (by_run (lane here.lanes m).ended (lane here.lanes m).strand refl refl (here.between.lanes m least.inside) e i) process

  -- there is less to do
  falls : (w : Watch) (new : List Lane) → Turned p w ran new → loads p 0 new < loads p 0 here.lanes
  falls w new turned =
      let less = turned.less in
      let there : m < length released_lanes = rw took (simp length-map least.inside) in
      let moves = runs.moves m there can_run in
      let same : loads p 0 released_lanes ≡ loads p 0 here.lanes = ap (loads p 0) took ∙ loads-release p 0 (Some (c, m)) here.lanes in
      omega arith

  -- and the rest is left
  ran_between : Between seen p here.room here.start then here.first after ran gather'
      (here.events + length (joined (map (due (Some (c, m))) here.lanes)))
  ran_between =
      between_kept (between_released here (Some (c, m)) (next_first here started c m least) took wrote cleared)
      (runs.same (plan_lines p)) runs.rooms runs.lanes long

  -- with nothing before the tick
  ran_from : AllFrom c 0 (lefts p (plan_lines p) ran)
  ran_from =
      subst (AllFrom c 0) (sym (runs.same (plan_lines p) ∙ ap (lefts p (plan_lines p)) took)) (next_from here started c m least)

  pub has_ran : HasRan seen p here.room here.start then here.first after here.lanes ran gather' c
      (here.events + length (joined (map (due (Some (c, m))) here.lanes)))
  has_ran = record { between = ran_between; from = ran_from; falls = falls }
