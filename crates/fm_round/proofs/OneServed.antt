-- What is known in a turn of a process that is being served.
use Rattle.std.proofs.Common.{◌≡◌, ℕ, ◌+◌, ◌<◌, List, length, map, set, true, false, Some, sym, subst, arith, length-set}
use Rattle.fm_edge.specs.Seen.{SinkSeen}
use Rattle.fm_edge.specs.Runs.{Breaks}
use Rattle.fm_msg.specs.Event.{TimedMessage}
use Rattle.fm_line.specs.Piece.{In, sorted}
use Rattle.fm_buffer.specs.Gather.{EventGather}
use Rattle.fm_program.specs.Parts.{PlanParts}
use Rattle.fm_program.specs.Process.{plan_lines}
use Rattle.fm_smf.specs.Track.{events_bytes}
use Rattle.fm_smf.specs.Writing.{Written, Writes}
use Rattle.fm_round.specs.Lefts.{joined}
use Rattle.fm_round.specs.Lanes.{CanRun, IsLaneOf, Runs, due, lane, lefts, live_clock, loads, without_due}
use Rattle.fm_round.specs.Rounds.{MayRelease}
use Rattle.fm_round.specs.Turns.{AllFrom, GoesOn, IsPlaying, OwnDue, Serves, StopsShort, is_past}
use Rattle.fm_round.specs.declared.lane.Lane.{Lane}
use Rattle.fm_round.proofs.Between.{room_at}
use Rattle.fm_round.proofs.Goings.{from_of_one, goes_kept, goes_none, goes_stops, loads_of_one, may_release_own, owns_due, playing_on, released_stops, served_goes, waits_of_one}
use Rattle.fm_round.proofs.Serving.{can_run_on, clock_past, ran_falls, ran_lanes, ran_lefts, ran_rooms, serves_all, serves_none, serves_ran, serves_released, some_room}

-- since the process `at` was first served n events were written, and nothing that is left lies before its pair
pub record IsServed {K : Type 0} (seen : SinkSeen K) (p : PlanParts) (tick at n : ℕ) (a b : K) (wa wb : Written)
    (old new : List Lane) (ga gb : EventGather) : Type 0 where
  pub serves : Serves p tick at false old new
  pub goes : GoesOn seen p n a b wa wb old new ga gb
  pub from : AllFrom tick at (lefts p (plan_lines p) new)

pub served_none : {K : Type 0} {seen : SinkSeen K} (p : PlanParts) (tick at : ℕ) (a : K) (wa : Written) (old : List Lane)
    (ga : EventGather) → AllFrom tick at (lefts p (plan_lines p) old) → IsServed seen p tick at 0 a a wa wa old old ga ga
served_none p tick at a wa old ga from = record {
  serves = serves_none p tick at old;
  goes = goes_none a wa old ga;
  from = from;
}

module _ {K : Type 0} {seen : SinkSeen K} {p : PlanParts} {tick at n : ℕ} {a b : K} {wa wb : Written} {old new : List Lane}
    {ga gb : EventGather} (may : IsPlaying seen p a wa old ga) (there : at < length old)
    (before : IsServed seen p tick at n a b wa wb old new ga gb) where
  pub playing_here : IsPlaying seen p b wb new gb
  playing_here = playing_on n may before.goes

  pub there_here : at < length new
  there_here = omega (arith, there, before.serves.size)

  pub lane_here : IsLaneOf p at (lane new at)
  lane_here = playing_here.between.lanes at there_here

  -- ---- what is due of it

  pub owns_here : OwnDue (tick, at) new
  owns_here = owns_due playing_here tick at there_here before.from

  pub may_release_here : MayRelease (Some (tick, at)) new gb wb
  may_release_here = may_release_own playing_here tick at there_here before.from

  pub stops_here : {then : K} → Breaks seen b then (events_bytes wb.state (sorted (joined (map (due (Some (tick, at))) new))))
      → StopsShort seen p a then wa old ga
  stops_here breaks = goes_stops n before.goes (released_stops playing_here tick at there_here before.from breaks)

  module _ {rest : List Lane} (took : rest ≡ map (without_due (Some (tick, at))) new) where
    -- after it was written
    pub served_more : {more : ℕ} {d : K} {wd : Written} {gd : EventGather}
        → more ≡ length (joined (map (due (Some (tick, at))) new))
        → Writes seen b d (sorted (joined (map (due (Some (tick, at))) new))) wb wd → gd ≡ gb
        → IsServed seen p tick at (n + more) a d wa wd old rest ga gd
    served_more {more = more} count wrote same = record {
      serves = serves_released p tick at old new rest before.serves owns_here took;
      goes = served_goes playing_here tick at there_here before.from n more before.goes count took wrote same;
      from = from_of_one playing_here tick at there_here before.from took;
    }

    -- nothing waits in it up to the tick
    pub waits_later : (e : TimedMessage) → In e (lane rest at).outbox.events → tick < e.time
    waits_later = waits_of_one playing_here tick at there_here before.from took

    -- and as much is left to do
    pub loads_kept : loads p 0 rest ≡ loads p 0 new
    loads_kept = loads_of_one playing_here tick at there_here before.from took

  module _ (late : (e : TimedMessage) → In e (lane new at).outbox.events → tick < e.time) where
    -- once it is past the tick, nothing of the tick is left of it
    pub served_all : is_past tick (live_clock p (lane new at)) ≡ true → Serves p tick at true old new
    served_all past =
        serves_all p tick at old new before.serves before.from
        (record { clock = clock_past p tick (lane new at) past; events = late })

    -- ---- a quantum of it

    module _ (behind : is_past tick (live_clock p (lane new at)) ≡ false) (y : Lane) (runs : Runs p at tick (lane new at) y) where
      can_run_here : CanRun p tick (lane new at)
      can_run_here =
          can_run_on p tick at (lane new at) lane_here late behind
          (some_room (lane new at).outbox.room playing_here.room
          (room_at new at playing_here.room there_here playing_here.between.rooms) playing_here.between.some)

      pub falls_here : loads p 0 (set new at y) < loads p 0 new
      falls_here = ran_falls p tick at new y there_here runs can_run_here

      pub served_on : IsServed seen p tick at n a b wa wb old (set new at y) ga gb
      served_on = record {
        serves = serves_ran p tick at old new y before.serves there_here runs can_run_here;
        goes = goes_kept n before.goes (ran_lefts p tick at new y there_here runs (plan_lines p))
            (ran_rooms p tick at new y there_here runs)
            (ran_lanes p tick at new y there_here runs playing_here.between.lanes) (length-set new at y);
        from = subst (AllFrom tick at) (sym (ran_lefts p tick at new y there_here runs (plan_lines p))) before.from;
      }
